-- What goes wrong where a step is done otherwise.
use Rattle.std.specs.Prelude.{◌≡◌, true, false, List, [], ◌∷◌, Some, None, map, flat_map, set, codes}
use Rattle.std.specs.Ordering.{is_eq}
use Rattle.definitions.specs.Value.{rank}
use Rattle.definitions.specs.Statement.{NotEquals, GreaterThan}
use Rattle.definitions.specs.Table.{Database}
use Rattle.definitions.specs.Arithmetic.{DivisionByZero}
use Rattle.definitions.specs.Plans.Path.{IndexScan}
use Rattle.definitions.specs.Plans.Plan.{Inner, Plan, Merge, Sort}
use Rattle.definitions.specs.Plans.Space.{Space}
use Rattle.definitions.specs.Queries.BoundBlock.{Compare, Block}
use Rattle.definitions.specs.Queries.Conjuncts.{late_conjuncts}
use Rattle.definitions.specs.Queries.Combinations.{all_combinations, raises_of_late, raises_of_where}
use Rattle.definitions.specs.Estimates.Version.{One}
use Rattle.definitions.specs.Estimates.Orders.{index_order}
use Rattle.definitions.specs.Estimates.BlockSpace.{space_of}
use Rattle.definitions.specs.Examples.Estimates.Setups.{index_with, column_at, col, whole, divided_by, equals, all_hold}
use Rattle.definitions.specs.Examples.Estimates.Setups.{select_from, scan_of}
use Rattle.definitions_execution.specs.RowOrder.{may_stand_before}
use Rattle.definitions_execution.specs.Stored.{Composite, Stored, value_at}
use Rattle.definitions_execution.specs.Passing.{passes}
use Rattle.definitions_execution.specs.Running.{run, inner_rows, delivered}
use Rattle.definitions_execution.specs.Merging.{merged_by, merged_over, merged}
use Rattle.definitions_execution.specs.OfBlock.{stored_of}
use Rattle.definitions_execution.specs.Examples.TwoTables.{number, filled, alone_in, joined_space, joined_stored}
use Rattle.definitions_execution.specs.Examples.TwoTables.{sorted_scan, two_composites}
use Rattle.definitions_execution.specs.Examples.NestedBlocks.{keyed}

-- ---- wrong: rows match where their ranks are equal, so that null goes with null

abbrev pub merged_by_rank : List Composite
merged_by_rank =
    merged_by (value_at joined_stored (column_at 0 0)) (joined_stored.value_in (column_at 1 0))
    (λ composite row. is_eq (rank (value_at joined_stored (column_at 0 0) composite)
    (joined_stored.value_in (column_at 1 0) row)))
    (λ composite rows. map (λ row. set composite 1 row) rows)
    (delivered joined_space joined_stored (Sort (scan_of 0) 1))
    (inner_rows joined_space joined_stored 0 (sorted_scan 1))

abbrev pub NullsWouldMerge : Type 0
NullsWouldMerge =
    (merged_by_rank ≡ (1 ∷ 1 ∷ []) ∷ two_composites) × (passes joined_space joined_stored 3 (1 ∷ 1 ∷ []) ≡ false)

-- ---- wrong: a merge over inner rows that were not cleaned. U (X): 2. T (A, B): 1, 5; 2, 2, with an index on A. WHERE
-- A = B AND X = B. The index gives B's order on rows with A = B alone

abbrev pub misled : Database
misled = filled (codes "U") (codes "X" ∷ []) [] ((number 2 ∷ []) ∷ [])
    ∷ filled (codes "T") (codes "A" ∷ codes "B" ∷ []) (index_with false (0 ∷ []) 2 1 None ∷
    []) ((number 1 ∷ number 5 ∷ []) ∷ (number 2 ∷ number 2 ∷ []) ∷ []) ∷ []

abbrev pub misled_block : Block
misled_block =
    select_from [] (0 ∷ 1 ∷ []) (Some (all_hold (equals (col 1 0) (col 1 1) ∷ equals (col 0 0) (col 1 1) ∷ []))) []

abbrev pub misled_space : Space
misled_space = space_of One misled misled_block

abbrev pub misled_stored : Stored
misled_stored = stored_of (alone_in misled) misled_block

abbrev pub by_index : Inner
by_index = record { path = IndexScan 1 0 false; sorted = false }

-- U in the order of X, which is order 1
abbrev pub outer : Plan
outer = Sort (scan_of 0) 1

abbrev pub RawRowsMislead : Type 0
RawRowsMislead =
    (merged_over misled_space misled_stored 1 1 by_index (delivered misled_space misled_stored outer)
    (inner_rows misled_space misled_stored 1 by_index) ≡ [])
    × (merged misled_space misled_stored 1 1 by_index (delivered misled_space misled_stored outer) ≡ (0 ∷ 1 ∷ []) ∷ [])
    × (delivered misled_space misled_stored (Merge outer 1 by_index) ≡ (0 ∷ 1 ∷ []) ∷ [])

-- ---- wrong: an index read backward, taken as ascending. U (V): 1; 2, the index on V

abbrev pub keyed_block : Block
keyed_block = select_from [] (0 ∷ []) None []

abbrev pub keyed_stored : Stored
keyed_stored = stored_of (alone_in (keyed ∷ [])) keyed_block

abbrev pub BackwardIsNotAscending : Type 0
BackwardIsNotAscending = (run keyed_stored (IndexScan 0 0 true) (0 ∷ []) ≡ 1 ∷ 0 ∷ [])
    × (may_stand_before keyed_stored.value_in (index_order (keyed ∷ []) keyed_block 0 0 true) 1 0 ≡ true)
    × (may_stand_before keyed_stored.value_in (index_order (keyed ∷ []) keyed_block 0 0 false) 1 0 ≡ false)

-- ---- wrong: a late conjunct before an early one. T (A, B): 6, 2; 5, 0. WHERE B <> 0 AND A / B > 2

abbrev pub dividing : Database
dividing =
    filled (codes "T") (codes "A" ∷ codes "B" ∷ []) [] ((number 6 ∷ number 2 ∷ []) ∷ (number 5 ∷ number 0 ∷ []) ∷ []) ∷
    []

abbrev pub dividing_block : Block
dividing_block =
    select_from [] (0 ∷ []) (Some (all_hold (Compare NotEquals (col 0 1) (whole 0 1) ∷
    Compare GreaterThan (divided_by (col 0 0) (col 0 1)) (whole 2 1) ∷ []))) []

-- over what passes nothing is raised, over all combinations a division by zero
abbrev pub LateWaitsForEarly : Type 0
LateWaitsForEarly = (raises_of_where (alone_in dividing) dividing_block ≡ [])
    × (flat_map (raises_of_late (alone_in dividing) (late_conjuncts dividing_block))
    (all_combinations (alone_in dividing) dividing_block) ≡ DivisionByZero ∷ [])
