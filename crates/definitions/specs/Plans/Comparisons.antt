-- What a certificate is judged by (own): each single step from a state that it lists, and each access, the state that
-- it leads to, and its cost there, which is compared with that state's bound.
use Rattle.std.specs.Prelude.{ℕ, ◌+◌, ◌<◌, ◌≤◌}
use Rattle.definitions.specs.Plans.TableSet.{TableSet, no_tables, only, with_table}
use Rattle.definitions.specs.Plans.Order.{OrderNumber}
use Rattle.definitions.specs.Plans.Path.{Path, table_of}
use Rattle.definitions.specs.Plans.Plan.{Inner}
use Rattle.definitions.specs.Plans.Space.{Space}
use Rattle.definitions.specs.Plans.PlanSpace.{IsPath, CanLoop, CanMerge, CanSort}
use Rattle.definitions.specs.Plans.Cost.{saturated, loop_cost, merge_cost}
use Rattle.definitions.specs.Plans.Folding.{Folds}
use Rattle.definitions.specs.Plans.Certificate.{Certificate, bound, IsListed}

pub data PlanStep : Type 0 where
  AccessStep LoopStep : (path : Path) → PlanStep
  MergeStep : (number : ℕ) (inner : Inner) → PlanStep
  SortStep : (into : OrderNumber) → PlanStep

module _ (space : Space) (certificate : Certificate) where
  -- of a state, a step: from it, or of an access to it; the tables and the folded order that it leads to; and the cost
  pub data Compares : TableSet → OrderNumber → PlanStep → TableSet → OrderNumber → ℕ → Type 0 where
    by_access : (path : Path) (folded : OrderNumber) → table_of path < space.table_count → IsPath space no_tables path
        → Folds space (only (table_of path)) (space.path_order path) folded
        → Compares (only (table_of path)) folded (AccessStep path) (only (table_of path)) folded
        (space.path_cost no_tables path)
    by_loop : (tables : TableSet) (order : OrderNumber) (path : Path) (folded : OrderNumber)
        → IsListed certificate tables order → CanLoop space tables path
        → Folds space (with_table tables (table_of path)) order folded
        → Compares tables order (LoopStep path) (with_table tables (table_of path)) folded
        (saturated (bound certificate tables order + loop_cost space tables path))
    by_merge : (tables : TableSet) (order : OrderNumber) (number : ℕ) (inner : Inner) (folded : OrderNumber)
        → IsListed certificate tables order → CanMerge space tables order number inner
        → Folds space (with_table tables (table_of inner.path)) order folded
        → Compares tables order (MergeStep number inner) (with_table tables (table_of inner.path)) folded
        (saturated (bound certificate tables order + merge_cost space tables number inner))
    by_sort : (tables : TableSet) (order into folded : OrderNumber)
        → IsListed certificate tables order → CanSort space tables into → Folds space tables into folded
        → Compares tables order (SortStep into) tables folded
        (saturated (bound certificate tables order + space.sort_cost tables))

  -- no step leads below the bound of a state
  abbrev pub ComparisonsHold : Type 0
  ComparisonsHold = (tables reached : TableSet) (order folded : OrderNumber) (step : PlanStep) (cost : ℕ)
      → Compares tables order step reached folded cost → bound certificate reached folded ≤ cost
