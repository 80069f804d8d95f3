use Rattle.std.proofs.Common.{◌≡◌, ◌++◌, take}
use Rattle.std.specs.Prelude.{flat_map}
use Rattle.definitions.specs.Printing.{row_line}
use Rattle.result_lines.specs.Batches.{rows_in}
use Rattle.result_lines.specs.RowAt.{items_of}
use Rattle.result_lines.proofs.column_rows.write_rows.Given as goal

-- the rows before a place are written
abbrev pub invariant-places : goal.invariant-places
invariant-places g l = l.out.items ≡ l.fn.out.items ++ flat_map row_line (rows_in (items_of l.items) (take l.place (g.B.RowBatch.environments l.batch)))
