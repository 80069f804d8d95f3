-- The comparisons of one table, one state, one join.
use Rattle.std.specs.Prelude.{ℕ, ◌+◌, ◌<◌, ◌≡◌, ◌⊎◌, Some}
use Rattle.definitions.specs.Plans.TableSet.{TableSet, no_tables, only, with_table}
use Rattle.definitions.specs.Plans.Order.{OrderNumber}
use Rattle.definitions.specs.Plans.Path.{Path, table_of}
use Rattle.definitions.specs.Plans.Plan.{Inner}
use Rattle.definitions.specs.Plans.Space.{Space, whole, order_at}
use Rattle.definitions.specs.Plans.ColumnClass.{Satisfies}
use Rattle.definitions.specs.Plans.PlanSpace.{IsPath, MayFollow, CanSort}
use Rattle.definitions.specs.Plans.Cost.{saturated, loop_cost, merge_cost}
use Rattle.definitions.specs.Plans.Folding.{Folds}
use Rattle.definitions.specs.Plans.Certificate.{Certificate, StateCost, bound, IsListed}
use Rattle.definitions.specs.Plans.Comparisons.{PlanStep, AccessStep, LoopStep, MergeStep, SortStep}
use Rattle.plan_space.specs.Merge.{IsMerge}
use Rattle.plan_space.specs.InterestingOrders.Merges.{GoesBy}
use Rattle.cert_check.specs.Compared.{Compared, compared}

-- a step from a state to another of a bound, with what it adds
abbrev pub step_from : StateCost → TableSet → OrderNumber → ℕ → PlanStep → ℕ → Compared
step_from from reached folded reach step added =
    record {
      from = Some from;
      step = step;
      tables = reached;
      order = folded;
      cost = saturated (from.cost + added);
      bound =
          reach;
    }

module _ (space : Space) where
  -- a loop over a table
  abbrev pub IsLoopOver : StateCost → ℕ → TableSet → OrderNumber → ℕ → Compared → Type 0
  IsLoopOver from table reached folded reach c = (path : Path) × (table_of path ≡ table)
      × IsPath space from.tables path
      × (c ≡ step_from from reached folded reach (LoopStep path) (loop_cost space from.tables path))

  -- a merge with it that the state's order allows
  abbrev pub IsMergeWith : StateCost → ℕ → TableSet → OrderNumber → ℕ → Compared → Type 0
  IsMergeWith from table reached folded reach c = (number : ℕ) × (inner : Inner)
      × IsMerge space from.tables table number inner × GoesBy space from.tables from.order number table
      × (c ≡ step_from from reached folded reach (MergeStep number inner) (merge_cost space from.tables number inner))

module _ (space : Space) (certificate : Certificate) where
  -- an access of a table
  abbrev pub IsAccessOf : ℕ → Compared → Type 0
  IsAccessOf table c = (path : Path) × (folded : OrderNumber) × (table_of path ≡ table) × IsPath space no_tables path
      × Folds space (only table) (space.path_order path) folded
      × (c ≡ compared certificate (only table) folded (AccessStep path) (only table) folded
      (space.path_cost no_tables path))

  -- a join with a table
  abbrev pub IsJoinWith : StateCost → ℕ → Compared → Type 0
  IsJoinWith from table c = (folded : OrderNumber) × MayFollow space from.tables table
      × Folds space (with_table from.tables table) from.order folded
      × (IsLoopOver space from table (with_table from.tables table) folded
      (bound certificate (with_table from.tables table) folded) c
      ⊎ IsMergeWith space from table (with_table from.tables table) folded
      (bound certificate (with_table from.tables table) folded) c)

  abbrev pub IsJoinFrom : StateCost → Compared → Type 0
  IsJoinFrom from c = (table : ℕ) × (table < space.table_count) × IsJoinWith from table c

  -- a sort
  abbrev pub IsSortFrom : StateCost → Compared → Type 0
  IsSortFrom from c = (into : OrderNumber) × (folded : OrderNumber) × CanSort space from.tables into
      × Folds space from.tables into folded
      × (c ≡ step_from from from.tables folded (bound certificate from.tables folded) (SortStep into)
      (space.sort_cost from.tables))

abbrev pub IsFinal : Space → TableSet → OrderNumber → Type 0
IsFinal space tables order = (tables ≡ whole space)
    × Satisfies space (whole space) (order_at space order) space.required

abbrev pub FinalAt : Space → Certificate → OrderNumber → Type 0
FinalAt space certificate order = IsListed certificate (whole space) order
    × Satisfies space (whole space) (order_at space order) space.required
