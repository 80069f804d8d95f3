-- Packed rows as code keeps them.
use Rattle.std.specs.Prelude.{ℕ, List, [], ◌∷◌, map}
use Rattle.tuple_sort.specs.Keys.{packed_in}
use Rattle.tuple_sort.specs.declared.sort_buffer.SortBuffer.{SortBuffer}
use Rattle.tuple_sort.specs.declared.sort_buffer.SortBuffer.TheVariants as k

-- of a single table
abbrev pub single : ℕ → List ℕ
single row = row ∷ []

abbrev pub rows_of : SortBuffer → List (List ℕ)
rows_of (k.One rows) = map single rows.items
rows_of (k.Two rows) = map packed_in rows.items
rows_of (k.Four rows) = map packed_in rows.items
rows_of (k.Eight rows) = map packed_in rows.items
rows_of (k.All rows) = map packed_in rows.items

-- of how many tables they are, at most
abbrev pub room_of : SortBuffer → ℕ
room_of (k.One rows) = 1
room_of (k.Two rows) = 2
room_of (k.Four rows) = 4
room_of (k.Eight rows) = 8
room_of (k.All rows) = 14
