-- Each step by itself, whatever list its input is: what code needs that makes the lists in another way.
use Rattle.std.specs.Prelude.{ℕ, ◌<◌, List, IsPermutation}
use Rattle.definitions.specs.Plans.TableSet.{TableSet, Has, Lacks, with_table}
use Rattle.definitions.specs.Plans.Order.{SortKey, Order}
use Rattle.definitions.specs.Plans.Path.{Path, table_of}
use Rattle.definitions.specs.Plans.Plan.{Inner}
use Rattle.definitions.specs.Plans.Space.{Space}
use Rattle.definitions.specs.Plans.PlanSpace.{IsPath, CanMerge}
use Rattle.definitions_execution.specs.Lists.{In, Rises}
use Rattle.definitions_execution.specs.RowOrder.{NotAfter}
use Rattle.definitions_execution.specs.Stored.{Composite, Stored, value_at}
use Rattle.definitions_execution.specs.Fits.{Fits}
use Rattle.definitions_execution.specs.Passing.{passing_composites}
use Rattle.definitions_execution.specs.Running.{run, extend, equal_rows}
use Rattle.definitions_execution.specs.Delivery.{Delivers, Serves}

-- rows that serve, tried on each combination of what is delivered in turn, deliver with one table more, in the same
-- order
abbrev pub StepDelivers : Type 0
StepDelivers =
    (space : Space) (stored : Stored) → Fits space stored
    → (tables : TableSet) (table : ℕ) (order : Order) (rows : Composite → List ℕ) (composites : List Composite)
    → table < space.table_count → Lacks tables table → ((key : SortKey) → In key order → Has tables key.column.table)
    → Serves space stored tables table rows → Delivers space stored tables order composites
    → Delivers space stored (with_table tables table) order (extend space stored tables table rows composites)

-- the run of a path serves, and so do the rows of a merge's inner side that match
abbrev pub RunServes : Type 0
RunServes =
    (space : Space) (stored : Stored) → Fits space stored → (tables : TableSet) (path : Path) → IsPath space tables path
    → Serves space stored tables (table_of path) (run stored path)

abbrev pub EqualRowsServe : Type 0
EqualRowsServe =
    (space : Space) (stored : Stored) → Fits space stored → (tables : TableSet) (order number : ℕ) (inner : Inner)
    → CanMerge space tables order number inner
    → Serves space stored tables (table_of inner.path) (equal_rows space stored number inner)

-- any arrangement that is in another order delivers in that order
abbrev pub SortDelivers : Type 0
SortDelivers =
    (space : Space) (stored : Stored) (tables : TableSet) (order other : Order) (composites arranged : List Composite)
    → Delivers space stored tables order composites → IsPermutation composites arranged
    → Rises (NotAfter (value_at stored) other) arranged
    → Delivers space stored tables other arranged

-- what delivers is an arrangement of what passes
abbrev pub DeliveredIsArranged : Type 0
DeliveredIsArranged =
    (space : Space) (stored : Stored) (tables : TableSet) (order : Order) (composites : List Composite)
    → Delivers space stored tables order composites
    → IsPermutation (passing_composites space stored tables) composites
