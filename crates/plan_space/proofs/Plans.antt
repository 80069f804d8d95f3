-- Plans with what they come to, step by step.
use Rattle.std.proofs.Common.{◌≡◌, ◌∙◌, refl, sym, ap, ap₂, subst, ℕ, ◌+◌, ◌<◌, ◌^◌, ◌⊎◌, inl, inr, List, [], ◌∷◌, Some, None, map}
use Rattle.std.specs.Prelude.{Contains}
use Rattle.std.specs.List.{AllByRecursion}
use Rattle.std.proofs.lemmas.Nat.{pow_below}
use Rattle.definitions.specs.Plans.TableSet.{TableSet, only, no_tables, with_table}
use Rattle.definitions.specs.Plans.Order.{BlockColumn, OrderNumber, ascending}
use Rattle.definitions.specs.Plans.Path.{Path, table_of}
use Rattle.definitions.specs.Plans.Plan.{Inner, Plan, Access, Loop, Merge, Sort}
use Rattle.definitions.specs.Plans.Space.{Space, order_at}
use Rattle.definitions.specs.Plans.ColumnClass.{Satisfies}
use Rattle.definitions.specs.Plans.PlanSpace.{MayFollow, IsPath, CanMerge, CanSort, IsPlan, access, loop, merge, sort, tables_of, order_of}
use Rattle.definitions.specs.Plans.Cost.{saturated, loop_cost, merge_cost}
use Rattle.definitions.proofs.PlanTheory.Elements.{first_is, first_or_rest, not_in_empty, later}
use Rattle.plan_tree.specs.Sets.{set_of}
use Rattle.interesting_orders.specs.Merges.{GoesBy}
use Rattle.plan_space.specs.Item.{Item, IsItem, AreItems}
use Rattle.plan_space.specs.Loop.{LoopItem, IsLoopItem, AreLoops}
use Rattle.plan_space.specs.Merge as m
use Rattle.plan_space.specs.Merge.{IsMerge, IsMergeItem, AreMerges}
use Rattle.plan_space.proofs.Sides.{same_sides}
use Rattle.plan_space.specs.Measures.{IsMeasured, IsPathFound, IsLoopFound, IsMergeFound}
use Rattle.plan_space.specs.declared.plan_summary.PlanSummary.{PlanSummary}

-- ---- a path among items

module _ (space : Space) (known : TableSet) (path : Path) where
  abbrev paths_in : List Item → List Path
  paths_in items = map (λ (item : Item). item.path) items

  -- if it is there at all, it is among those that are left
  pub record IsLeft (rest : List Item) : Type 0 where
    pub each : AllByRecursion (IsItem space known (table_of path)) rest
    pub paths : (other : Path) → Contains (paths_in rest) other → Contains (space.paths known (table_of path)) other
    pub there : IsPath space known path → Contains (paths_in rest) path

  pub all_left : (items : List Item) → AreItems space known (table_of path) items → IsLeft items
  all_left items are = record {
    each = are.each;
    paths = λ other h. subst (λ (ps : List Path). Contains ps other) are.paths h;
    there = λ is. subst (λ (ps : List Path). Contains ps path) (sym are.paths) is;
  }

  pub one_passed : (item : Item) (rest : List Item) → IsLeft (item ∷ rest) → (item.path ≡ path → ⊥) → IsLeft rest
  one_passed item rest left other = record {
    each = left.each.1;
    paths = λ p h. left.paths p (later item.path (paths_in rest) p h);
    there = λ is. by_place (first_or_rest item.path (paths_in rest) path (left.there is));
  }
    where
      by_place : (item.path ≡ path) ⊎ Contains (paths_in rest) path → Contains (paths_in rest) path
      by_place (inl e) = absurd (other e)
      by_place (inr r) = r

  pub here : (item : Item) (rest : List Item) → IsLeft (item ∷ rest) → item.path ≡ path → IsPathFound space known path (Some item)
  here item rest left e = (e, left.paths path (first_is item.path (paths_in rest) path e), left.each.0)

  pub nowhere : IsLeft [] → IsPathFound space known path None
  nowhere left = λ lt is. not_in_empty path (left.there is)

-- ---- a loop among items

module _ (space : Space) (tables : TableSet) (path : Path) where
  abbrev wanted_loop : LoopItem
  wanted_loop = record { path = path; cost = loop_cost space tables path }

  pub record IsLeftLoop (rest : List LoopItem) : Type 0 where
    pub each : AllByRecursion (IsLoopItem space tables (table_of path)) rest
    pub there : IsPath space tables path → Contains rest wanted_loop

  pub all_loops_left : (items : List LoopItem) → AreLoops space tables (table_of path) items → IsLeftLoop items
  all_loops_left items are = record { each = are.each; there = λ is. are.all path refl is }

  pub one_loop_passed : (item : LoopItem) (rest : List LoopItem) → IsLeftLoop (item ∷ rest) → (item.path ≡ path → ⊥) → IsLeftLoop rest
  one_loop_passed item rest left other = record {
    each = left.each.1;
    there = λ is. by_place (first_or_rest item rest wanted_loop (left.there is));
  }
    where
      by_place : (item ≡ wanted_loop) ⊎ Contains rest wanted_loop → Contains rest wanted_loop
      by_place (inl e) = absurd (other (ap (λ (x : LoopItem). x.path) e))
      by_place (inr r) = r

  pub loop_here : (item : LoopItem) (rest : List LoopItem) → IsLeftLoop (item ∷ rest) → item.path ≡ path → IsLoopFound space tables path (Some item)
  loop_here item rest left is = (is, left.each.0)

  pub loop_nowhere : IsLeftLoop [] → IsLoopFound space tables path None
  loop_nowhere left = λ is. not_in_empty wanted_loop (left.there is)

-- ---- a merge among items

module _ (space : Space) (tables : TableSet) (number : ℕ) (inner : Inner) where
  abbrev IsIt : m.Merge → Type 0
  IsIt item = (item.conjunct ≡ number) × (item.inner ≡ inner)

  abbrev wanted : m.Merge
  wanted = record { conjunct = number; inner = inner; cost = merge_cost space tables number inner }

  pub record IsLeftMerge (rest : List m.Merge) : Type 0 where
    pub each : AllByRecursion (IsMergeItem space tables (table_of inner.path)) rest
    pub there : IsMerge space tables (table_of inner.path) number inner → Contains rest wanted

  pub all_merges_left : (items : List m.Merge) → AreMerges space tables (table_of inner.path) items → IsLeftMerge items
  all_merges_left items are = record { each = are.each; there = λ is. are.all number inner is }

  pub one_merge_passed : (item : m.Merge) (rest : List m.Merge) → IsLeftMerge (item ∷ rest) → (IsIt item → ⊥) → IsLeftMerge rest
  one_merge_passed item rest left other = record {
    each = left.each.1;
    there = λ is. by_place (first_or_rest item rest wanted (left.there is));
  }
    where
      by_place : (item ≡ wanted) ⊎ Contains rest wanted → Contains rest wanted
      by_place (inl e) = absurd (other (ap (λ (x : m.Merge). x.conjunct) e, ap (λ (x : m.Merge). x.inner) e))
      by_place (inr r) = r

  pub merge_here : (item : m.Merge) (rest : List m.Merge) → IsLeftMerge (item ∷ rest) → IsIt item → IsMergeFound space tables number inner (Some item)
  merge_here item rest left is = (is.0, is.1, left.each.0)

  pub merge_nowhere : IsLeftMerge [] → IsMergeFound space tables number inner None
  merge_nowhere left = λ is. not_in_empty wanted (left.there is)

-- ---- plans

module _ (space : Space) where
  pub no_access : (path : Path) → IsPathFound space no_tables path None → IsPlan space (Access path) → ⊥
  no_access path none (access p lt is) = none lt is

  pub an_access : (path : Path) (item : Item) (m : PlanSummary) → IsPathFound space no_tables path (Some item) → table_of path < space.table_count
      → set_of m.tables ≡ only (table_of path) → m.order ≡ item.order → m.cost.number ≡ item.cost → IsMeasured space (Access path) m
  an_access path item m found lt tables order cost = record {
    is_plan = access path lt found.1;
    tables = sym tables;
    order = ap space.path_order (sym found.0) ∙ sym found.2.order ∙ sym order;
    cost = ap (space.path_cost no_tables) (sym found.0) ∙ sym found.2.cost ∙ sym cost;
    inside = subst (λ n. n < 2 ^ space.table_count) (sym tables) (pow_below (table_of path) space.table_count lt);
  }

  module _ (plan : Plan) (outer : PlanSummary) (is : IsMeasured space plan outer) where
    pub not_following : (path : Path) → (MayFollow space (set_of outer.tables) (table_of path) → ⊥) → IsPlan space (Loop plan path) → ⊥
    not_following path never (loop p a is' can) = never (subst (λ s. MayFollow space s (table_of path)) is.tables can.0)

    pub no_loop : (path : Path) → IsLoopFound space (set_of outer.tables) path None → IsPlan space (Loop plan path) → ⊥
    no_loop path none (loop p a is' can) = none (subst (λ s. IsPath space s path) is.tables can.1)

    pub a_loop : (path : Path) (item : LoopItem) (m : PlanSummary) → MayFollow space (set_of outer.tables) (table_of path) → IsLoopFound space (set_of outer.tables) path (Some item)
        → set_of m.tables ≡ with_table (set_of outer.tables) (table_of path) → m.order ≡ outer.order
        → m.cost.number ≡ saturated (outer.cost.number + item.cost) → with_table (set_of outer.tables) (table_of path) < 2 ^ space.table_count
        → IsMeasured space (Loop plan path) m
    a_loop path item m follows found tables order cost inside = record {
      is_plan = loop plan path is.is_plan (subst (λ s. MayFollow space s (table_of path)) (sym is.tables) follows, subst (λ s. IsPath space s path) (sym is.tables) there);
      tables = ap (λ s. with_table s (table_of path)) is.tables ∙ sym tables;
      order = is.order ∙ sym order;
      cost = ap₂ (λ a b. saturated (a + b)) is.cost (ap (λ s. loop_cost space s path) is.tables ∙ sym step) ∙ sym cost;
      inside = subst (λ n. n < 2 ^ space.table_count) (sym tables) inside;
    }
      where
        step : item.cost ≡ loop_cost space (set_of outer.tables) path
        step = found.1.cost ∙ ap (loop_cost space (set_of outer.tables)) found.0

        there : IsPath space (set_of outer.tables) path
        there = subst (IsPath space (set_of outer.tables)) found.0 found.1.is_path

    pub not_following_merge : (number : ℕ) (inner : Inner) → (MayFollow space (set_of outer.tables) (table_of inner.path) → ⊥) → IsPlan space (Merge plan number inner) → ⊥
    not_following_merge number inner never (merge p n i is' can) = never (subst (λ s. MayFollow space s (table_of inner.path)) is.tables can.0)

    -- the order and the tables that a merge goes on from are those that are told
    at_told : (number : ℕ) (inner : Inner) → CanMerge space (tables_of space plan) (order_of space plan) number inner → CanMerge space (set_of outer.tables) outer.order number inner
    at_told number inner can = subst (λ o. CanMerge space (set_of outer.tables) o number inner) is.order (subst (λ s. CanMerge space s (order_of space plan) number inner) is.tables can)

    pub not_going : (number : ℕ) (inner : Inner) → (GoesBy space (set_of outer.tables) outer.order number (table_of inner.path) → ⊥) → IsPlan space (Merge plan number inner) → ⊥
    not_going number inner never (merge p n i is' can) =
        let told = at_told number inner can in
        never (told.1.0, told.1.1, told.1.2, told.1.3, told.1.4, told.1.5)

    pub no_merge : (number : ℕ) (inner : Inner) → IsMergeFound space (set_of outer.tables) number inner None → IsPlan space (Merge plan number inner) → ⊥
    no_merge number inner none (merge p n i is' can) =
        let told = at_told number inner can in
        none (refl, (told.1.0, told.1.1, told.1.2, told.1.3, told.1.4, told.1.6))

    pub a_merge : (number : ℕ) (inner : Inner) (item : m.Merge) (m : PlanSummary) → MayFollow space (set_of outer.tables) (table_of inner.path)
        → GoesBy space (set_of outer.tables) outer.order number (table_of inner.path) → IsMergeFound space (set_of outer.tables) number inner (Some item)
        → set_of m.tables ≡ with_table (set_of outer.tables) (table_of inner.path) → m.order ≡ outer.order → m.cost.number ≡ saturated (outer.cost.number + item.cost)
        → with_table (set_of outer.tables) (table_of inner.path) < 2 ^ space.table_count → IsMeasured space (Merge plan number inner) m
    a_merge number inner item m follows goes found tables order cost inside = record {
      is_plan = merge plan number inner is.is_plan can;
      tables = ap (λ s. with_table s (table_of inner.path)) is.tables ∙ sym tables;
      order = is.order ∙ sym order;
      cost = ap₂ (λ a b. saturated (a + b)) is.cost (ap (λ s. merge_cost space s number inner) is.tables ∙ sym step) ∙ sym cost;
      inside = subst (λ n. n < 2 ^ space.table_count) (sym tables) inside;
    }
      where
        step : item.cost ≡ merge_cost space (set_of outer.tables) number inner
        step = found.2.cost ∙ ap₂ (λ (n : ℕ) (i : Inner). merge_cost space (set_of outer.tables) n i) found.0 found.1

        found_merge : IsMerge space (set_of outer.tables) (table_of inner.path) number inner
        found_merge = subst (λ n. IsMerge space (set_of outer.tables) (table_of inner.path) n inner) found.0
            (subst (λ (i : Inner). IsMerge space (set_of outer.tables) (table_of inner.path) item.conjunct i) found.1 found.2.is_merge)

        -- both are by the same two columns
        at : CanMerge space (set_of outer.tables) outer.order number inner
        at =
            let (x, y, conjunct, has, to, serves) = found_merge.1 in
            let (a, b, conjunct', has', to', satisfied) = goes in
            let same = same_sides space number a b x y conjunct' conjunct (to' ∙ sym to) in
            (follows, (x, y, conjunct, has, to, subst (λ (z : BlockColumn). Satisfies space (set_of outer.tables) (order_at space outer.order) (ascending z)) same.0 satisfied, serves))

        can : CanMerge space (tables_of space plan) (order_of space plan) number inner
        can = subst (λ o. CanMerge space (tables_of space plan) o number inner) (sym is.order) (subst (λ s. CanMerge space s outer.order number inner) (sym is.tables) at)

    pub no_sort : (order : OrderNumber) → (CanSort space (set_of outer.tables) order → ⊥) → IsPlan space (Sort plan order) → ⊥
    no_sort order never (sort p o is' can) = never (subst (λ s. CanSort space s order) is.tables can)

    pub a_sort : (order : OrderNumber) (m : PlanSummary) → CanSort space (set_of outer.tables) order → set_of m.tables ≡ set_of outer.tables → m.order ≡ order
        → m.cost.number ≡ saturated (outer.cost.number + space.sort_cost (set_of outer.tables)) → IsMeasured space (Sort plan order) m
    a_sort order m can tables is_order cost = record {
      is_plan = sort plan order is.is_plan (subst (λ s. CanSort space s order) (sym is.tables) can);
      tables = is.tables ∙ sym tables;
      order = sym is_order;
      cost = ap₂ (λ a b. saturated (a + b)) is.cost (ap space.sort_cost is.tables) ∙ sym cost;
      inside = subst (λ n. n < 2 ^ space.table_count) (sym tables) is.inside;
    }

  -- ---- and no plan on top of none

  pub no_loop_on : (plan : Plan) (path : Path) → (IsPlan space plan → ⊥) → IsPlan space (Loop plan path) → ⊥
  no_loop_on plan path never (loop p a is can) = never is

  pub no_merge_on : (plan : Plan) (number : ℕ) (inner : Inner) → (IsPlan space plan → ⊥) → IsPlan space (Merge plan number inner) → ⊥
  no_merge_on plan number inner never (merge p n i is can) = never is

  pub no_sort_on : (plan : Plan) (order : OrderNumber) → (IsPlan space plan → ⊥) → IsPlan space (Sort plan order) → ⊥
  no_sort_on plan order never (sort p o is can) = never is
