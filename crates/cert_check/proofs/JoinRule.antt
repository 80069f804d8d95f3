-- The joins from a state with a table.
use Rattle.std.proofs.Common.{ℕ, ◌≡◌, ◌∙◌, ◌⊎◌, inl, inr, ◌+◌, List, ◌∷◌, ◌++◌, Bool, Option, Some, None, refl, sym, ap, subst}
use Rattle.std.specs.Prelude.{Contains}
use Rattle.definitions.specs.Plans.TableSet.{TableSet, with_table}
use Rattle.definitions.specs.Plans.Order.{OrderNumber}
use Rattle.definitions.specs.Plans.Path.{Path, table_of}
use Rattle.definitions.specs.Plans.Plan.{Inner}
use Rattle.definitions.specs.Plans.Space.{Space}
use Rattle.definitions.specs.Plans.PlanSpace.{MayFollow}
use Rattle.definitions.specs.Plans.Cost.{saturated, loop_cost, merge_cost}
use Rattle.definitions.specs.Plans.Folding.{Folds}
use Rattle.definitions.specs.Plans.Certificate.{Certificate, StateCost, IsListed, bound}
use Rattle.definitions.specs.Plans.Comparisons.{PlanStep, LoopStep, MergeStep, Compares, by_access, by_loop, by_merge, by_sort}
use Rattle.definitions.specs.Plans.Checking.{Joins, rule_of_step}
use Rattle.definitions.proofs.PlanTheory.Orders.{folds_once}
use Rattle.plan_space.specs.Loop.{LoopItem, IsLoopItem, AreLoops}
use Rattle.plan_space.specs.Merge.{Merge, IsMerge, IsMergeItem, AreMerges}
use Rattle.plan_space.specs.InterestingOrders.Merges.{GoesBy}
use Rattle.plan_space.proofs.Merging.{can_merge, is_merge, goes_by}
use Rattle.cert_check.specs.Checks.{step_from, IsLoopOver, IsMergeWith, IsJoinWith, IsJoinFrom}
use Rattle.cert_check.specs.Compared.{Compared, compared, IsCompared}
use Rattle.cert_check.specs.Handing.{HandsOut}
use Rattle.cert_check.proofs.Handing.{each_has, nothing, both, the_same}
use Rattle.cert_check.proofs.Comparing.{pairs_before, table_of_step, is_compared, from_bound}

module _ (space : Space) (from : StateCost) (table : ℕ) (reached : TableSet) (folded : OrderNumber) (reach : ℕ) where
  -- a step as code makes it, for a cost that it found
  abbrev pub step_for : PlanStep → ℕ → Compared
  step_for step cost = record { from = Some from; step = step; tables = reached; order = folded; cost = cost; bound = reach }

  pub same_step : (step : PlanStep) (added cost : ℕ) → cost ≡ saturated (from.cost + added) → step_for step cost ≡ step_from from reached folded reach step added
  same_step step added cost is = ap (step_for step) is

  -- ---- loops

  abbrev pub loop_by : LoopItem → Compared
  loop_by item = step_from from reached folded reach (LoopStep item.path) item.cost

  abbrev pub LoopBy : LoopItem → Compared → Type 0
  LoopBy item c = c ≡ loop_by item

  pub loop_apart : (done rest : List LoopItem) (item : LoopItem) → AreLoops space from.tables table (done ++ (item ∷ rest)) → (y : LoopItem) → Contains done y → (x : Compared) → LoopBy y x → LoopBy item x → ⊥
  loop_apart done rest item are y there x is is' =
      let same : LoopStep y.path ≡ LoopStep item.path = sym (ap (λ (c : Compared). c.step) is) ∙ ap (λ (c : Compared). c.step) is' in
      let path : y.path ≡ item.path = cc in
      pairs_before (λ (a b : LoopItem). a.path ≡ b.path → ⊥) done rest item y are.distinct there path

  pub loop_of_item : (all : List LoopItem) → AreLoops space from.tables table all → (y : LoopItem) → Contains all y → (x : Compared) → LoopBy y x → IsLoopOver space from table reached folded reach x
  loop_of_item all are y there x is =
      let own : IsLoopItem space from.tables table y = each_has (IsLoopItem space from.tables table) all y are.each there in
      (y.path, own.reads, own.is_path, is ∙ ap (step_from from reached folded reach (LoopStep y.path)) own.cost)

  pub item_of_loop : (all : List LoopItem) → AreLoops space from.tables table all → (x : Compared) → IsLoopOver space from table reached folded reach x → (item : LoopItem) × Contains all item × LoopBy item x
  item_of_loop all are x (path, at, there, is) = (record { path = path; cost = loop_cost space from.tables path }, are.all path at there, is)

  -- ---- merges

  abbrev pub merge_by : Merge → Compared
  merge_by item = step_from from reached folded reach (MergeStep item.conjunct item.inner) item.cost

  abbrev pub MergeBy : Merge → Compared → Type 0
  MergeBy item c = GoesBy space from.tables from.order item.conjunct table × (c ≡ merge_by item)

  pub merge_apart : (done rest : List Merge) (item : Merge) → AreMerges space from.tables table (done ++ (item ∷ rest)) → (y : Merge) → Contains done y → (x : Compared) → MergeBy y x → MergeBy item x → ⊥
  merge_apart done rest item are y there x (goes, is) (goes', is') =
      let same : MergeStep y.conjunct y.inner ≡ MergeStep item.conjunct item.inner = sym (ap (λ (c : Compared). c.step) is) ∙ ap (λ (c : Compared). c.step) is' in
      let conjunct : y.conjunct ≡ item.conjunct = cc in
      let inner : y.inner ≡ item.inner = cc in
      pairs_before (λ (a b : Merge). a.conjunct ≡ b.conjunct → a.inner ≡ b.inner → ⊥) done rest item y are.distinct there conjunct inner

  pub merge_of_item : (all : List Merge) → AreMerges space from.tables table all → (y : Merge) → Contains all y → (x : Compared) → MergeBy y x → IsMergeWith space from table reached folded reach x
  merge_of_item all are y there x (goes, is) =
      let own : IsMergeItem space from.tables table y = each_has (IsMergeItem space from.tables table) all y are.each there in
      (y.conjunct, y.inner, own.is_merge, goes, is ∙ ap (step_from from reached folded reach (MergeStep y.conjunct y.inner)) own.cost)

  pub item_of_merge : (all : List Merge) → AreMerges space from.tables table all → (x : Compared) → IsMergeWith space from table reached folded reach x → (item : Merge) × Contains all item × MergeBy item x
  item_of_merge all are x (number, inner, merge, goes, is) =
      (record { conjunct = number; inner = inner; cost = merge_cost space from.tables number inner }, are.all number inner merge, (goes, is))

  pub kinds_apart : (x : Compared) → IsLoopOver space from table reached folded reach x → IsMergeWith space from table reached folded reach x → ⊥
  kinds_apart x (path, at, there, is) (number, inner, merge, goes, is') =
      let same : LoopStep path ≡ MergeStep number inner = sym (ap (λ (c : Compared). c.step) is) ∙ ap (λ (c : Compared). c.step) is' in
      absurd cc

-- ---- joins with a table

module _ (space : Space) (certificate : Certificate) (from : StateCost) (table : ℕ) where
  abbrev next : TableSet
  next = with_table from.tables table

  module _ {L : Type 0} (hears : L → Compared → Bool → L → Type 0) (old : L) where
    pub none_follows : (MayFollow space from.tables table → ⊥) → HandsOut hears (IsJoinWith space certificate from table) old None old
    none_follows never = nothing hears (IsJoinWith space certificate from table) old (λ x is. never is.1)

    module _ (follows : MayFollow space from.tables table) (reached : TableSet) (folded : OrderNumber) (reach : ℕ) (is_reached : reached ≡ next)
        (folds : Folds space reached from.order folded) (is_reach : reach ≡ bound certificate reached folded) where
      own_folds : Folds space next from.order folded
      own_folds = subst (λ s. Folds space s from.order folded) is_reached folds

      own_reach : reach ≡ bound certificate next folded
      own_reach = is_reach ∙ ap (λ s. bound certificate s folded) is_reached

      abbrev Loops : Compared → Type 0
      Loops = IsLoopOver space from table reached folded reach

      abbrev Merges : Compared → Type 0
      Merges = IsMergeWith space from table reached folded reach

      loop_is : (x : Compared) → Loops x → IsJoinWith space certificate from table x
      loop_is x is = (folded, follows, own_folds, inl (subst (λ n. IsLoopOver space from table next folded n x) own_reach (subst (λ s. IsLoopOver space from table s folded reach x) is_reached is)))

      merge_is : (x : Compared) → Merges x → IsJoinWith space certificate from table x
      merge_is x is = (folded, follows, own_folds, inr (subst (λ n. IsMergeWith space from table next folded n x) own_reach (subst (λ s. IsMergeWith space from table s folded reach x) is_reached is)))

      kinds : (x : Compared) → IsJoinWith space certificate from table x → Loops x ⊎ Merges x
      kinds x (f, follows', folds', kind) = of_kind kind
        where
          once : f ≡ folded
          once = folds_once space next from.order f folded folds' own_folds

          of_kind : IsLoopOver space from table next f (bound certificate next f) x ⊎ IsMergeWith space from table next f (bound certificate next f) x → Loops x ⊎ Merges x
          of_kind (inl is) = inl (subst (λ s. IsLoopOver space from table s folded reach x) (sym is_reached)
              (subst (λ n. IsLoopOver space from table next folded n x) (sym own_reach) (subst (λ k. IsLoopOver space from table next k (bound certificate next k) x) once is)))
          of_kind (inr is) = inr (subst (λ s. IsMergeWith space from table s folded reach x) (sym is_reached)
              (subst (λ n. IsMergeWith space from table next folded n x) (sym own_reach) (subst (λ k. IsMergeWith space from table next k (bound certificate next k) x) once is)))

      pub loops_stop : (new : L) (x : Compared) → HandsOut hears Loops old (Some x) new → HandsOut hears (IsJoinWith space certificate from table) old (Some x) new
      loops_stop new x out = the_same hears Loops (IsJoinWith space certificate from table) old new (Some x) out loop_is (λ e. absurd cc)

      pub joins_with : (mid new : L) (stopped : Option Compared) → HandsOut hears Loops old None mid → HandsOut hears Merges mid stopped new → HandsOut hears (IsJoinWith space certificate from table) old stopped new
      joins_with mid new stopped loops merges =
          both hears Loops Merges (IsJoinWith space certificate from table) old mid new stopped loops merges (kinds_apart space from table reached folded reach) loop_is merge_is (λ e. kinds)

-- ---- of all tables

module _ (space : Space) (certificate : Certificate) where
  step_table : (from : StateCost) (a : ℕ) (x : Compared) → IsJoinWith space certificate from a x → table_of_step x.step ≡ a
  step_table from a x (f, follows, folds, inl (path, at, there, is)) = ap (λ (c : Compared). table_of_step c.step) is ∙ at
  step_table from a x (f, follows, folds, inr (number, inner, merge, goes, is)) = ap (λ (c : Compared). table_of_step c.step) is ∙ merge.0

  pub one_table : (from : StateCost) (a b : ℕ) (x : Compared) → IsJoinWith space certificate from a x → IsJoinWith space certificate from b x → a ≡ b
  one_table from a b x is is' = sym (step_table from a x is) ∙ step_table from b x is'

  pub join_begins : (from : StateCost) (x : Compared) → IsJoinFrom space certificate from x → x.from ≡ Some from
  join_begins from x (table, lt, (f, follows, folds, inl (path, at, there, is))) = ap (λ (c : Compared). c.from) is
  join_begins from x (table, lt, (f, follows, folds, inr (number, inner, merge, goes, is))) = ap (λ (c : Compared). c.from) is

  -- ---- the rule

  module _ (from : StateCost) (listed : IsListed certificate from.tables from.order) (is_bound : from.cost ≡ bound certificate from.tables from.order) where
    loop_compared : (x : Compared) (path : Path) (folded : OrderNumber) (t : ℕ) → table_of path ≡ t → MayFollow space from.tables t → Folds space (with_table from.tables t) from.order folded
        → Contains (space.paths from.tables (table_of path)) path
        → x ≡ step_from from (with_table from.tables t) folded (bound certificate (with_table from.tables t) folded) (LoopStep path) (loop_cost space from.tables path) → IsCompared space certificate Joins x
    loop_compared x path folded t at =
        subst (λ n. MayFollow space from.tables n → Folds space (with_table from.tables n) from.order folded → Contains (space.paths from.tables (table_of path)) path
        → x ≡ step_from from (with_table from.tables n) folded (bound certificate (with_table from.tables n) folded) (LoopStep path) (loop_cost space from.tables path) → IsCompared space certificate Joins x) at
        (λ follows folds there is. is_compared space certificate Joins x from.tables (with_table from.tables (table_of path)) from.order folded (LoopStep path) _
        (by_loop from.tables from.order path folded listed (follows, there) folds) refl (is ∙ from_bound certificate from is_bound (with_table from.tables (table_of path)) folded (LoopStep path) (loop_cost space from.tables path)))

    merge_compared : (x : Compared) (number : ℕ) (inner : Inner) (folded : OrderNumber) (t : ℕ) → table_of inner.path ≡ t → MayFollow space from.tables t → Folds space (with_table from.tables t) from.order folded
        → IsMerge space from.tables t number inner → GoesBy space from.tables from.order number t
        → x ≡ step_from from (with_table from.tables t) folded (bound certificate (with_table from.tables t) folded) (MergeStep number inner) (merge_cost space from.tables number inner) → IsCompared space certificate Joins x
    merge_compared x number inner folded t at =
        subst (λ n. MayFollow space from.tables n → Folds space (with_table from.tables n) from.order folded → IsMerge space from.tables n number inner → GoesBy space from.tables from.order number n
        → x ≡ step_from from (with_table from.tables n) folded (bound certificate (with_table from.tables n) folded) (MergeStep number inner) (merge_cost space from.tables number inner) → IsCompared space certificate Joins x) at
        (λ follows folds merge goes is. is_compared space certificate Joins x from.tables (with_table from.tables (table_of inner.path)) from.order folded (MergeStep number inner) _
        (by_merge from.tables from.order number inner folded listed (can_merge space from.tables from.order (table_of inner.path) number inner follows merge goes) folds) refl
        (is ∙ from_bound certificate from is_bound (with_table from.tables (table_of inner.path)) folded (MergeStep number inner) (merge_cost space from.tables number inner)))

    pub join_is : (x : Compared) → IsJoinFrom space certificate from x → IsCompared space certificate Joins x
    join_is x (table, lt, (f, follows, folds, inl (path, at, there, is))) = loop_compared x path f table at follows folds there is
    join_is x (table, lt, (f, follows, folds, inr (number, inner, merge, goes, is))) = merge_compared x number inner f table merge.0 follows folds merge goes is

  -- a comparison of the rule begins from a listed state
  abbrev pub FromListed : Compared → Type 0
  FromListed x = (tables : TableSet) × (order : OrderNumber) × IsListed certificate tables order
      × IsJoinFrom space certificate (record { tables = tables; order = order; cost = bound certificate tables order }) x

  pub join_of : (x : Compared) → IsCompared space certificate Joins x → FromListed x
  join_of x (tables, order, compares, by, is) = of_step tables x.tables order x.order x.step x.cost compares by is
    where
      of_step : (tables reached : TableSet) (order folded : OrderNumber) (step : PlanStep) (cost : ℕ) → Compares space certificate tables order step reached folded cost → rule_of_step step ≡ Joins
          → x ≡ compared certificate tables order step reached folded cost → FromListed x
      of_step tables reached order folded step cost (by_access path f below is_path folds) by is = absurd cc
      of_step tables reached order folded step cost (by_loop s k path f listed can folds) by is = (s, k, listed, (table_of path, can.0.0, (f, can.0, folds, inl (path, refl, can.1, is))))
      of_step tables reached order folded step cost (by_merge s k number inner f listed can folds) by is =
          (s, k, listed, (table_of inner.path, can.0.0, (f, can.0, folds, inr (number, inner, is_merge space s k number inner can, goes_by space s k number inner can, is))))
      of_step tables reached order folded step cost (by_sort s k into f listed can folds) by is = absurd cc
