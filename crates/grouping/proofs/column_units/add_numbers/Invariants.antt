use Rattle.std.proofs.Common.{◌≡◌, ◌≤◌, ◌++◌, length, map, drop, false}
use Rattle.std.specs.Prelude.{All, FitsSigned}
use Rattle.std.specs.Int.{w64}
use Rattle.definitions.specs.Value.{scale_of}
use Rattle.definitions.specs.Queries.Grouping.{taken}
use Rattle.columns.specs.Starts.{value_in}
use Rattle.grouping.specs.Units.{numbers_at}
use Rattle.grouping.proofs.column_units.add_numbers.Given as goal

-- the numbers so far, and those to come, are all
abbrev pub invariant-rows : goal.invariant-rows
invariant-rows l = record {
  numbers :
      numbers_at (scale_of l.numbers.type) l.units.items ++ taken false (map (value_in l.numbers) (drop l.row-index l.rows))
      ≡ taken false (map (value_in l.numbers) l.rows);
  few : length l.units.items ≤ l.row-index;
  ranged : All (FitsSigned w64) l.units.items;
}
