use Rattle.std.proofs.Common.{◌≡◌, drop}
use Rattle.tuple_sort.specs.Packing.{row_in}
use Rattle.tuple_sort.proofs.packing.row_in.Given as goal

abbrev pub invariant-places : goal.invariant-places
invariant-places l = row_in (drop l.place l.members) (drop l.place l.rows) l.table ≡ row_in l.members l.rows l.table
