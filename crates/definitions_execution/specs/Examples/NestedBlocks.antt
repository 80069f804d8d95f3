-- The totals of a join, and of a block with an inner one. T (X): 1. U (V): 1; 2, with a unique index on V.
-- SELECT .. FROM T WHERE EXISTS (SELECT * FROM U WHERE V = X).
use Rattle.std.specs.Prelude.{ℕ, ◌≡◌, true, false, [], ◌∷◌, Some, None, codes}
use Rattle.definitions.specs.Value.{Integer}
use Rattle.definitions.specs.Table.{Table}
use Rattle.definitions.specs.Plans.Path.{Path, SegmentScan, MatchingScan}
use Rattle.definitions.specs.Plans.Plan.{Access}
use Rattle.definitions.specs.Queries.BoundBlock.{Parameter, Exists, Blocks}
use Rattle.definitions.specs.Estimates.Version.{One}
use Rattle.definitions.specs.Examples.Estimates.Setups.{index_with, column_at, col, equals, select_from, scan_of}
use Rattle.definitions_execution.specs.Total.{total_of}
use Rattle.definitions_execution.specs.Examples.TwoTables.{number, filled, two, joined, loop_from_second}

-- without a subquery the total is the plan's work
abbrev pub TotalOfLoop : Type 0
TotalOfLoop = total_of One two (joined ∷ []) (loop_from_second ∷ []) ≡ 8

abbrev pub single : Table
single = filled (codes "T") (codes "X" ∷ []) [] ((number 1 ∷ []) ∷ [])

abbrev pub keyed : Table
keyed =
    filled (codes "U") (codes "V" ∷ []) (index_with true (0 ∷ []) 2 1 None ∷ []) ((number 1 ∷ []) ∷ (number 2 ∷ []) ∷
    [])

abbrev pub nested : Blocks
nested =
    select_from [] (0 ∷ []) (Some (Exists 1)) [] ∷
    select_from [] (1 ∷ []) (Some (equals (col 0 0) (Parameter 0 (column_at 0 0) Integer))) [] ∷ []

abbrev pub total_with : Path → ℕ
total_with path = total_of One (single ∷ keyed ∷ []) nested (scan_of 0 ∷ Access path ∷ [])

-- the scan of T opens one row, and the one evaluation of the inner block one more by the index, two by a scan
abbrev pub TotalOfNested : Type 0
TotalOfNested = (total_with (MatchingScan 0 0 (0 ∷ []) false) ≡ 2) × (total_with (SegmentScan 0) ≡ 3)
