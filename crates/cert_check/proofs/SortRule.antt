-- The sorts from a state.
use Rattle.std.proofs.Common.{ℕ, ◌≡◌, ◌∙◌, ◌<◌, ◌+◌, List, ◌∷◌, ◌++◌, Some, refl, sym, ap, ap₂, arith}
use Rattle.std.specs.Prelude.{Contains}
use Rattle.std.proofs.lemmas.List.Kept.{AllPairs-from_increasing}
use Rattle.definitions.specs.Plans.TableSet.{TableSet}
use Rattle.definitions.specs.Plans.Order.{OrderNumber}
use Rattle.definitions.specs.Plans.Space.{Space}
use Rattle.definitions.specs.Plans.PlanSpace.{CanSort}
use Rattle.definitions.specs.Plans.Cost.{saturated}
use Rattle.definitions.specs.Plans.Folding.{Folds}
use Rattle.definitions.specs.Plans.Certificate.{Certificate, StateCost, IsListed, bound}
use Rattle.definitions.specs.Plans.Comparisons.{PlanStep, SortStep, Compares, by_access, by_loop, by_merge, by_sort}
use Rattle.definitions.specs.Plans.Checking.{Sorts, rule_of_step}
use Rattle.definitions.proofs.PlanTheory.Orders.{folds_once}
use Rattle.plan_space.specs.InterestingOrders.Sorts.{AreSorts}
use Rattle.cert_check.specs.Checks.{step_from, IsSortFrom}
use Rattle.cert_check.specs.Compared.{Compared, compared, IsCompared}
use Rattle.cert_check.proofs.Handing.{each_has}
use Rattle.cert_check.proofs.Comparing.{pairs_before, is_compared, from_bound}

module _ (space : Space) (certificate : Certificate) (from : StateCost) where
  abbrev pub sort_by : OrderNumber → OrderNumber → Compared
  sort_by into folded = step_from from from.tables folded (bound certificate from.tables folded) (SortStep into) (space.sort_cost from.tables)

  abbrev pub SortBy : OrderNumber → Compared → Type 0
  SortBy into c = (folded : OrderNumber) × Folds space from.tables into folded × (c ≡ sort_by into folded)

  pub one_sort : (into folded : OrderNumber) → Folds space from.tables into folded → (d : Compared) → SortBy into d → d ≡ sort_by into folded
  one_sort into folded folds d (folded', folds', is) = is ∙ ap (sort_by into) (folds_once space from.tables into folded' folded folds' folds)

  -- the same as code makes it, for a cost and with a bound that it found
  abbrev pub sort_with : OrderNumber → OrderNumber → ℕ → ℕ → Compared
  sort_with into folded cost reach = record { from = Some from; step = SortStep into; tables = from.tables; order = folded; cost = cost; bound = reach }

  module _ (into folded : OrderNumber) (cost reach : ℕ) (is_cost : cost ≡ saturated (from.cost + space.sort_cost from.tables)) (is_reach : reach ≡ bound certificate from.tables folded) (folds : Folds space from.tables into folded) where
    same : sort_with into folded cost reach ≡ sort_by into folded
    same = ap₂ (sort_with into folded) is_cost is_reach

    pub is_sort : SortBy into (sort_with into folded cost reach)
    is_sort = (folded, folds, same)

    pub one_is : (d : Compared) → SortBy into d → d ≡ sort_with into folded cost reach
    one_is d is = one_sort into folded folds d is ∙ sym same

  pub sort_apart : (done rest : List ℕ) (into : ℕ) → AreSorts space from.tables (done ++ (into ∷ rest)) → (y : ℕ) → Contains done y → (x : Compared) → SortBy y x → SortBy into x → ⊥
  sort_apart done rest into are y there x (f, folds, is) (f', folds', is') =
      let same : SortStep y ≡ SortStep into = sym (ap (λ (c : Compared). c.step) is) ∙ ap (λ (c : Compared). c.step) is' in
      let equal : y ≡ into = cc in
      let less : y < into = pairs_before (λ (a b : ℕ). a < b) done rest into y (AllPairs-from_increasing (done ++ (into ∷ rest)) are.rising) there in
      absurd (omega arith)

  pub sort_of_item : (all : List ℕ) → AreSorts space from.tables all → (y : ℕ) → Contains all y → (x : Compared) → SortBy y x → IsSortFrom space certificate from x
  sort_of_item all are y there x (folded, folds, is) = (y, folded, each_has (CanSort space from.tables) all y are.each there, folds, is)

  pub item_of_sort : (all : List ℕ) → AreSorts space from.tables all → (x : Compared) → IsSortFrom space certificate from x → (into : ℕ) × Contains all into × SortBy into x
  item_of_sort all are x (into, folded, can, folds, is) = (into, are.all into can, (folded, folds, is))

  pub sort_begins : (x : Compared) → IsSortFrom space certificate from x → x.from ≡ Some from
  sort_begins x (into, folded, can, folds, is) = ap (λ (c : Compared). c.from) is

  pub sort_is : IsListed certificate from.tables from.order → from.cost ≡ bound certificate from.tables from.order → (x : Compared) → IsSortFrom space certificate from x → IsCompared space certificate Sorts x
  sort_is listed is_bound x (into, folded, can, folds, is) =
      is_compared space certificate Sorts x from.tables from.tables from.order folded (SortStep into) _ (by_sort from.tables from.order into folded listed can folds) refl
      (is ∙ from_bound certificate from is_bound from.tables folded (SortStep into) (space.sort_cost from.tables))

module _ (space : Space) (certificate : Certificate) where
  abbrev pub FromListed : Compared → Type 0
  FromListed x = (tables : TableSet) × (order : OrderNumber) × IsListed certificate tables order
      × IsSortFrom space certificate (record { tables = tables; order = order; cost = bound certificate tables order }) x

  pub sort_of : (x : Compared) → IsCompared space certificate Sorts x → FromListed x
  sort_of x (tables, order, compares, by, is) = of_step tables x.tables order x.order x.step x.cost compares by is
    where
      of_step : (tables reached : TableSet) (order folded : OrderNumber) (step : PlanStep) (cost : ℕ) → Compares space certificate tables order step reached folded cost → rule_of_step step ≡ Sorts
          → x ≡ compared certificate tables order step reached folded cost → FromListed x
      of_step tables reached order folded step cost (by_access path f below is_path folds) by is = absurd cc
      of_step tables reached order folded step cost (by_loop s k path f listed can folds) by is = absurd cc
      of_step tables reached order folded step cost (by_merge s k number inner f listed can folds) by is = absurd cc
      of_step tables reached order folded step cost (by_sort s k into f listed can folds) by is = (s, k, listed, (into, f, can, folds, is))
