use Rattle.std.proofs.Common.{◌≡◌, ◌≤◌, ◌++◌, length, map, drop, false}
use Rattle.std.specs.Prelude.{All, FitsSigned}
use Rattle.std.specs.Int.{w64}
use Rattle.definitions.specs.Queries.Grouping.{taken}
use Rattle.query_tree.specs.Bound.{column_of}
use Rattle.grouping.specs.Units.{numbers_at}
use Rattle.grouping.proofs.column_units.add_cells.Given as goal

-- the numbers so far, and those to come, are all
abbrev pub invariant-rows : goal.invariant-rows
invariant-rows g l = record {
  numbers :
      numbers_at l.scale l.units.items ++ taken false (map (g.B.RowBatch.value_in l.batch (column_of l.column)) (drop l.row-index l.rows))
      ≡ taken false (map (g.B.RowBatch.value_in l.batch (column_of l.column)) l.rows);
  few : length l.units.items ≤ l.row-index;
  ranged : All (FitsSigned w64) l.units.items;
}
