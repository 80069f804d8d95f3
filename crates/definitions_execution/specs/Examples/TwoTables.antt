-- Two small tables under each loop and merge. T1 (X, P): 1, 10; null, 20; 1, 30. T2 (Y, Q): 1, 5; null, 6. WHERE X = Y.
use Rattle.std.specs.Prelude.{ℕ, pos, ◌≡◌, true, List, [], ◌∷◌, Some, codes}
use Rattle.definitions.specs.Value.{Value, Null, Number}
use Rattle.definitions.specs.Statement.{Name}
use Rattle.definitions.specs.Table.{Row, Index, Table, Database}
use Rattle.definitions.specs.Arithmetic.{Is}
use Rattle.definitions.specs.Plans.Order.{ascending}
use Rattle.definitions.specs.Plans.Path.{SegmentScan}
use Rattle.definitions.specs.Plans.Plan.{Inner, Plan, Loop, Merge, Sort}
use Rattle.definitions.specs.Plans.Space.{Space}
use Rattle.definitions.specs.Plans.PlanSpace.{InSpace}
use Rattle.definitions.specs.Queries.BoundBlock.{Block}
use Rattle.definitions.specs.Queries.Combinations.{Context}
use Rattle.definitions.specs.Estimates.Version.{One}
use Rattle.definitions.specs.Estimates.BlockSpace.{space_of}
use Rattle.definitions.specs.Examples.Estimates.Setups.{table_with, column_at, col, equals, select_from, scan_of}
use Rattle.definitions_execution.specs.Stored.{Composite, Stored}
use Rattle.definitions_execution.specs.Running.{delivered, opened}
use Rattle.definitions_execution.specs.OfBlock.{stored_of, NamesOwnTables}
use Rattle.definitions_execution.specs.BlockLaws.{GivesPassing}

abbrev pub number : ℕ → Value
number n = Number (pos n) 0

-- a table of INTEGER columns with its rows
abbrev pub filled : Name → List Name → List Index → List Row → Table
filled name names indexes rows = record (table_with name names 1 1 indexes) { rows = rows }

-- a block with no block around it or in it
abbrev pub alone_in : Database → Context
alone_in db = record { database = db; outer = []; inner = λ number outer. Is [] }

abbrev pub two : Database
two =
    filled (codes "T1") (codes "X" ∷ codes "P" ∷ []) [] ((number 1 ∷ number 10 ∷ []) ∷ (Null ∷ number 20 ∷ []) ∷
    (number 1 ∷ number 30 ∷ []) ∷ [])
    ∷ filled (codes "T2") (codes "Y" ∷ codes "Q" ∷ []) [] ((number 1 ∷ number 5 ∷ []) ∷ (Null ∷ number 6 ∷ []) ∷ []) ∷
    []

abbrev pub joined : Block
joined = select_from [] (0 ∷ 1 ∷ []) (Some (equals (col 0 0) (col 1 0))) []

abbrev pub joined_space : Space
joined_space = space_of One two joined

abbrev pub joined_stored : Stored
joined_stored = stored_of (alone_in two) joined

-- order 1 is X, order 2 is Y
abbrev pub OrdersOfJoined : Type 0
OrdersOfJoined = joined_space.orders ≡ [] ∷ ascending (column_at 0 0) ∷ ascending (column_at 1 0) ∷ []

abbrev pub sorted_scan : ℕ → Inner
sorted_scan table = record { path = SegmentScan table; sorted = true }

abbrev pub loop_from_first : Plan
loop_from_first = Loop (scan_of 0) (SegmentScan 1)

abbrev pub loop_from_second : Plan
loop_from_second = Loop (scan_of 1) (SegmentScan 0)

abbrev pub merge_from_first : Plan
merge_from_first = Merge (Sort (scan_of 0) 1) 0 (sorted_scan 1)

abbrev pub merge_from_second : Plan
merge_from_second = Merge (Sort (scan_of 1) 2) 0 (sorted_scan 0)

-- rows 0 and 2 of T1 go with row 0 of T2
abbrev pub two_composites : List Composite
two_composites = (0 ∷ 0 ∷ []) ∷ (2 ∷ 0 ∷ []) ∷ []

-- a plan, and it under a sort by each numbered order, gives both; and so many rows are opened
abbrev pub Gives : Plan → ℕ → Type 0
Gives plan rows =
    (delivered joined_space joined_stored plan ≡ two_composites) × (opened joined_space joined_stored plan ≡ rows)

abbrev pub GivesAlsoSorted : Plan → ℕ → Type 0
GivesAlsoSorted plan rows = Gives plan rows × Gives (Sort plan 1) rows × Gives (Sort plan 2) rows

abbrev pub EachPlanGivesTheSame : Type 0
EachPlanGivesTheSame =
    GivesAlsoSorted loop_from_first 9 × GivesAlsoSorted loop_from_second 8 × GivesAlsoSorted merge_from_first 5
    × GivesAlsoSorted merge_from_second 5

-- these plans are of the block's space, so the laws speak of them
abbrev pub PlansAreInSpace : Type 0
PlansAreInSpace =
    InSpace joined_space loop_from_first × InSpace joined_space loop_from_second
    × InSpace joined_space merge_from_first × InSpace joined_space merge_from_second
    × InSpace joined_space (Sort loop_from_second 1)

abbrev pub LawsSpeakOfThem : Type 0
LawsSpeakOfThem = NamesOwnTables joined × GivesPassing One (alone_in two) joined merge_from_first
