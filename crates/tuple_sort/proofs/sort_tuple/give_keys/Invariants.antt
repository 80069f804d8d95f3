use Rattle.std.proofs.Common.{◌≡◌, length, map}
use Rattle.query_tree.specs.Bound.{column_of}
use Rattle.tuple_sort.specs.Keys.{packed_in}
use Rattle.tuple_sort.proofs.KeyedRows.{FirstHaveKeys}
use Rattle.tuple_sort.proofs.sort_tuple.give_keys.Given as goal

abbrev pub invariant-places : goal.invariant-places
invariant-places g l = (map packed_in l.keyed.items ≡ map packed_in l.initial.keyed.items) × (length l.keyed.items ≡ length l.initial.keyed.items) × FirstHaveKeys l.source l.members (column_of l.column) l.form l.place l.keyed.items
