use Rattle.std.proofs.Common.{◌≡◌, ◌++◌, length}
use Rattle.std.specs.Prelude.{flat_map}
use Rattle.definitions.specs.Printing.{row_line}
use Rattle.result_lines.specs.Batches.{rows_of_column}
use Rattle.result_lines.proofs.unit_lines.write_column.Given as goal

-- what is written, and what is left, is the whole
abbrev pub invariant-parts : goal.invariant-parts
invariant-parts l = l.out.items ++ flat_map row_line (rows_of_column l.numbers l.rest) ≡ l.fn.out.items ++ flat_map row_line (rows_of_column l.numbers l.rows)

abbrev pub decreases-parts : goal.decreases-parts
decreases-parts l = length l.rest
