use Rattle.std.proofs.Common.{take}
use Rattle.std.specs.List.{AllByRecursion}
use Rattle.result_lines.specs.Batches.{GivesColumnOf}
use Rattle.result_lines.specs.RowAt.{items_of}
use Rattle.result_lines.proofs.column_rows.are_columns_of.Given as goal

-- those before one are
abbrev pub invariant-items : goal.invariant-items
invariant-items l = AllByRecursion (GivesColumnOf l.width) (items_of (take l.item-index l.items))
