use Rattle.std.proofs.Common.{◌≡◌, ◌-◌, ◌++◌, map, replicate}
use Rattle.std.specs.List.{range_with_len}
use Rattle.filters.specs.Composites.{numbers_in}
use Rattle.tuple_sort.specs.Packing.{row_in}
use Rattle.tuple_sort.proofs.packing.unpack.Given as goal

abbrev pub invariant-tables : goal.invariant-tables
invariant-tables l = numbers_in l.width l.composite ≡ map (row_in l.members l.rows) (range_with_len 0 l.table) ++ replicate (l.width - l.table) 0
