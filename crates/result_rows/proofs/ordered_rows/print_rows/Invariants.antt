use Rattle.std.proofs.Common.{◌≡◌, ◌++◌, drop}
use Rattle.std.specs.Prelude.{flat_map}
use Rattle.definitions.specs.Printing.{row_line}
use Rattle.result_lines.specs.Rows.{rows_of}
use Rattle.result_rows.proofs.ordered_rows.print_rows.Given as goal

-- what is printed, and what is left, is the whole
abbrev pub invariant-rows : goal.invariant-rows
invariant-rows l = l.text.items ++ flat_map row_line (rows_of (drop l.row-index l.rows)) ≡ l.fn.text.items ++ flat_map row_line (rows_of l.rows)
