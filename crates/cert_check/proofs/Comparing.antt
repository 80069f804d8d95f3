-- Comparisons, by the kinds of their steps.
use Rattle.std.proofs.Common.{ℕ, ◌≡◌, ◌∙◌, ◌+◌, ◌<◌, List, [], ◌∷◌, ◌++◌, length, get_or, refl, sym, ap, ap₂, subst, arith}
use Rattle.std.specs.Prelude.{AllPairs, Contains}
use Rattle.std.specs.List.{AllByRecursion}
use Rattle.std.proofs.lemmas.List.{get_or_append_left}
use Rattle.definitions.specs.Plans.TableSet.{TableSet}
use Rattle.definitions.specs.Plans.Order.{OrderNumber}
use Rattle.definitions.specs.Plans.Path.{table_of}
use Rattle.definitions.specs.Plans.Cost.{saturated}
use Rattle.definitions.specs.Plans.Space.{Space}
use Rattle.definitions.specs.Plans.Certificate.{Certificate, StateCost, bound}
use Rattle.definitions.specs.Plans.Comparisons.{PlanStep, AccessStep, LoopStep, MergeStep, SortStep, Compares}
use Rattle.definitions.specs.Plans.Checking.{Rule, rule_of_step}
use Rattle.definitions.proofs.PlanTheory.Elements.{first_is, later}
use Rattle.cert_check.specs.Compared.{Compared, compared, IsCompared}
use Rattle.cert_check.specs.Checks.{step_from}

module _ {X : Type 0} where
  -- what holds of all pairs holds of an element and one before it
  pub pairs_before : (R : X → X → Type 0) (done rest : List X) (x y : X) → AllPairs R (done ++ (x ∷ rest)) → Contains done y → R y x
  pairs_before R done rest x y all (i, lt, is) =
      let first : get_or (done ++ (x ∷ rest)) i y ≡ y = get_or_append_left done (x ∷ rest) y i lt ∙ is in
      let second : get_or (done ++ (x ∷ rest)) (length done) y ≡ x = seam done in
      subst (λ a. R a x) first (subst (λ b. R (get_or (done ++ (x ∷ rest)) i y) b) second (all i (length done) y lt (within done)))
    where
      seam : (xs : List X) → get_or (xs ++ (x ∷ rest)) (length xs) y ≡ x
      seam [] = refl
      seam (z ∷ xs) = seam xs

      within : (xs : List X) → length xs < length (xs ++ (x ∷ rest))
      within [] = omega arith
      within (z ∷ xs) = omega (arith, within xs)

  -- each element is one
  pub members : (xs : List X) → AllByRecursion (λ (x : X). Contains xs x) xs
  members xs = go xs (λ x there. there)
    where
      go : (ys : List X) → ((x : X) → Contains ys x → Contains xs x) → AllByRecursion (λ (x : X). Contains xs x) ys
      go [] further = tt
      go (y ∷ ys) further = (further y (first_is y ys y refl), go ys (λ x there. further x (later y ys x there)))

pub sum_is : (n x y a b : ℕ) → n ≡ saturated (x + y) → x ≡ a → y ≡ b → n ≡ saturated (a + b)
sum_is n x y a b is e f = is ∙ ap₂ (λ (p q : ℕ). saturated (p + q)) e f

abbrev pub table_of_step : PlanStep → ℕ
table_of_step (AccessStep path) = table_of path
table_of_step (LoopStep path) = table_of path
table_of_step (MergeStep number inner) = table_of inner.path
table_of_step (SortStep into) = 0

module _ (space : Space) (certificate : Certificate) where
  pub is_compared : (rule : Rule) (c : Compared) (tables reached : TableSet) (order folded : OrderNumber) (step : PlanStep) (cost : ℕ)
      → Compares space certificate tables order step reached folded cost → rule_of_step step ≡ rule → c ≡ compared certificate tables order step reached folded cost → IsCompared space certificate rule c
  is_compared rule c tables reached order folded step cost compares by is =
      subst (λ (d : Compared). IsCompared space certificate rule d) (sym is) (tables, order, compares, by, refl)

-- a step from a state of its bound
module _ (certificate : Certificate) (from : StateCost) (is_bound : from.cost ≡ bound certificate from.tables from.order) where
  abbrev at_bound : StateCost
  at_bound = record { tables = from.tables; order = from.order; cost = bound certificate from.tables from.order }

  pub from_bound : (reached folded : ℕ) (step : PlanStep) (added : ℕ) → step_from from reached folded (bound certificate reached folded) step added
      ≡ step_from at_bound reached folded (bound certificate reached folded) step added
  from_bound reached folded step added =
      ap (λ n. step_from (record { tables = from.tables; order = from.order; cost = n }) reached folded (bound certificate reached folded) step added) is_bound
