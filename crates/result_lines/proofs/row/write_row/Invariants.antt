use Rattle.std.proofs.Common.{◌≡◌, ◌++◌, map, drop}
use Rattle.std.specs.List.{join_with_byte, AllByRecursion}
use Rattle.definitions_answers.specs.Lines.{IsInBounds}
use Rattle.definitions.specs.Printing.{value_text}
use Rattle.result_lines.specs.RowAt.{items_of, row_in, row_raises_in}
use Rattle.result_lines.proofs.Fields.{fields_left}
use Rattle.result_lines.proofs.row.write_row.Given as goal

-- what is written, and what is left, is the whole, and none of what is written raises
abbrev pub invariant-items : goal.invariant-items
invariant-items g l = record {
  text :
      l.out.items ++ fields_left l.i (map value_text (row_in (g.S.Environment.environment l.env) (items_of (drop l.i l.items))))
      ≡ l.fn.out.items ++ join_with_byte 124 (map value_text (row_in (g.S.Environment.environment l.env) (items_of l.items)));
  raises :
      row_raises_in (g.S.Environment.environment l.env) (items_of (drop l.i l.items))
      ≡ row_raises_in (g.S.Environment.environment l.env) (items_of l.items);
  bounded : AllByRecursion IsInBounds (row_in (g.S.Environment.environment l.env) (items_of (drop l.i l.items))) → AllByRecursion IsInBounds (row_in (g.S.Environment.environment l.env) (items_of l.items));
}
