use Rattle.std.proofs.Common.{◌≡◌, ◌<◌, length, map, take, Some}
use Rattle.std.specs.List.{AllByRecursion}
use Rattle.definitions.specs.Table.{column_numbers}
use Rattle.parse_tree.specs.Trees.{name_of}
use Rattle.catalog.proofs.table.Table.numbers.Given as goal

-- the numbers of the names so far
abbrev pub invariant-loop-place : goal.invariant-loop-place
invariant-loop-place l = record {
  found : column_numbers l.self.columns (map name_of (take l.place l.names)) ≡ Some l.numbers.items;
  there : AllByRecursion (λ n. n < length l.self.columns) l.numbers.items;
  many : length l.numbers.items ≡ l.place;
}
