use Rattle.std.proofs.Common.{◌≡◌, ◌++◌, map, drop}
use Rattle.std.specs.List.{AllByRecursion}
use Rattle.definitions_answers.specs.Lines.{IsInBounds}
use Rattle.sqlvalue.specs.Owned.{owned_value}
use Rattle.result_lines.specs.RowAt.{items_of, row_in, row_raises_in}
use Rattle.result_lines.proofs.row.keep_row.Given as goal

-- what is kept, and what is left, is the whole row, and none of what is kept raises
abbrev pub invariant-items : goal.invariant-items
invariant-items g l = record {
  row :
      map owned_value l.values.items ++ row_in (g.S.Environment.environment l.env) (items_of (drop l.item-index l.items))
      ≡ row_in (g.S.Environment.environment l.env) (items_of l.items);
  raises :
      row_raises_in (g.S.Environment.environment l.env) (items_of (drop l.item-index l.items))
      ≡ row_raises_in (g.S.Environment.environment l.env) (items_of l.items);
  bounded : AllByRecursion IsInBounds (row_in (g.S.Environment.environment l.env) (items_of (drop l.item-index l.items))) → AllByRecursion IsInBounds (row_in (g.S.Environment.environment l.env) (items_of l.items));
}
