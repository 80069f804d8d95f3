use Rattle.std.proofs.Common.{◌≡◌, ◌++◌, Some, map, drop}
use Rattle.std.specs.Prelude.{slice_get}
use Rattle.std.specs.List.{join_with_byte, AllByRecursion}
use Rattle.definitions_answers.specs.Lines.{IsInBounds}
use Rattle.definitions.specs.Printing.{value_text}
use Rattle.definitions.specs.Queries.Evaluation.{Environment}
use Rattle.result_lines.specs.RowAt.{items_of, row_in}
use Rattle.result_lines.proofs.Fields.{fields_left}
use Rattle.result_lines.proofs.column_rows.write_columns.Given as goal

-- what is written, and what is left, is the whole row, and its numbers are bounded where those that are left are
abbrev pub invariant-items : goal.invariant-items
invariant-items g l = record {
  text :
      (env : Environment) → slice_get (g.B.RowBatch.environments l.batch) l.place ≡ Some env
      → l.out.items ++ fields_left l.i (map value_text (row_in env (items_of (drop l.i l.items))))
      ≡ l.fn.out.items ++ join_with_byte 124 (map value_text (row_in env (items_of l.items)));
  bounded :
      (env : Environment) → slice_get (g.B.RowBatch.environments l.batch) l.place ≡ Some env
      → AllByRecursion IsInBounds (row_in env (items_of (drop l.i l.items))) → AllByRecursion IsInBounds (row_in env (items_of l.items));
}
