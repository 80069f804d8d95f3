use Rattle.std.proofs.Common.{ℕ, List, ◌++◌, take}
use Rattle.definitions.specs.Table.{Row}
use Rattle.result_lines.specs.Batches.{rows_in}
use Rattle.result_rows.specs.ResultRows.{HasDistinct}
use Rattle.result_lines.specs.RowAt.{items_of}
use Rattle.result_rows.proofs.distinct_rows.DistinctRows.add_batch.Given as goal

-- the rows before a place are there
abbrev pub invariant-places : goal.invariant-places
invariant-places g l = (names : List (List ℕ)) (rows : List Row) → HasDistinct names rows l.fn.self → HasDistinct names (rows ++ rows_in (items_of l.items) (take l.place (g.B.RowBatch.environments l.batch))) l.self
