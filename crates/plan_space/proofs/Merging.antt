-- Merges, and the orders that go by them.
use Rattle.std.proofs.Common.{ℕ, ◌∙◌, refl, sym, subst}
use Rattle.definitions.specs.Plans.Order.{BlockColumn}
use Rattle.definitions.specs.Plans.Path.{table_of}
use Rattle.definitions.specs.Plans.Plan.{Inner}
use Rattle.definitions.specs.Plans.Space.{Space}
use Rattle.definitions.specs.Plans.PlanSpace.{MayFollow, IsInner, CanMerge}
use Rattle.interesting_orders.specs.Merges.{GoesBy}
use Rattle.plan_space.specs.Merge.{IsMerge}
use Rattle.plan_space.proofs.Sides.{same_sides}

module _ (space : Space) where
  -- a merge whose order goes by its conjunct can be made
  pub can_merge : (tables order table number : ℕ) (inner : Inner) → MayFollow space tables table → IsMerge space tables table number inner → GoesBy space tables order number table → CanMerge space tables order number inner
  can_merge tables order table number inner follows (at, (x, y, merge, has, to, serves)) (a, b, merge', has', to', by') =
      let same = same_sides space number x y a b merge merge' (to ∙ sym to') in (
        subst (MayFollow space tables) (sym at) follows,
        (a, b, merge', has', to' ∙ sym at, by', subst (λ (column : BlockColumn). IsInner space column inner) same.1 serves),
      )

  pub is_merge : (tables order number : ℕ) (inner : Inner) → CanMerge space tables order number inner → IsMerge space tables (table_of inner.path) number inner
  is_merge tables order number inner (follows, (x, y, merge, has, to, by', serves)) = (refl, (x, y, merge, has, to, serves))

  pub goes_by : (tables order number : ℕ) (inner : Inner) → CanMerge space tables order number inner → GoesBy space tables order number (table_of inner.path)
  goes_by tables order number inner (follows, (x, y, merge, has, to, by', serves)) = (x, y, merge, has, to, by')
