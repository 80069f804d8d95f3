use Rattle.std.proofs.Common.{◌≡◌, ◌-◌, ◌++◌, map, replicate, take}
use Rattle.definitions_execution.specs.Stored.{row_number}
use Rattle.tuple_sort.proofs.packing.pack.Given as goal

abbrev pub invariant-places : goal.invariant-places
invariant-places g l = l.rows ≡ map (row_number l.composite) (take l.place l.members) ++ replicate (g.row.WIDTH - l.place) 0
