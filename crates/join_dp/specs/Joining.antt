-- Joins with one more table.
use Rattle.std.specs.Prelude.{ℕ, ◌≡◌, ⊤}
use Rattle.definitions.specs.Plans.TableSet.{TableSet}
use Rattle.definitions.specs.Plans.Order.{OrderNumber}
use Rattle.definitions.specs.Plans.Path.{table_of}
use Rattle.definitions.specs.Plans.Space.{Space}
use Rattle.definitions.specs.Plans.PlanSpace.{MayFollow, IsPath, CanLoop, CanMerge}
use Rattle.definitions.specs.Plans.Cost.{loop_cost, merge_cost}
use Rattle.plan_space.specs.Merge.{IsMerge}
use Rattle.plan_space.specs.InterestingOrders.Merges.{GoesBy}
use Rattle.join_dp.specs.Steps.{Join, Loop, Merge}

module _ (space : Space) where
  abbrev pub CanJoin : TableSet → OrderNumber → Join → Type 0
  CanJoin tables order (Loop path) = CanLoop space tables path
  CanJoin tables order (Merge number inner) = CanMerge space tables order number inner

  abbrev pub join_cost : TableSet → Join → ℕ
  join_cost tables (Loop path) = loop_cost space tables path
  join_cost tables (Merge number inner) = merge_cost space tables number inner

  -- a join of the set with the table, whatever the order
  abbrev pub IsJoin : TableSet → ℕ → Join → Type 0
  IsJoin tables table (Loop path) = (table_of path ≡ table) × IsPath space tables path
  IsJoin tables table (Merge number inner) = IsMerge space tables table number inner

  -- that an order allows
  abbrev pub GoesWith : TableSet → OrderNumber → ℕ → Join → Type 0
  GoesWith tables order table (Loop path) = ⊤
  GoesWith tables order table (Merge number inner) = GoesBy space tables order number table

  -- what it adds to the cost of a plan
  pub record IsAdded (tables : TableSet) (table : ℕ) (join : Join) (added : ℕ) : Type 0 where
    pub follows : MayFollow space tables table
    pub is_join : IsJoin tables table join
    pub cost : added ≡ join_cost tables join
