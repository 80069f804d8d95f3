-- Composites packed: only the rows of some tables are kept, in the order of FROM.
use Rattle.std.specs.Prelude.{ℕ, ◌-◌, List, [], ◌∷◌, ◌++◌, drop, filter, get_or, length, map, nat_eq, replicate}
use Rattle.std.specs.Prelude.{if◌then◌else◌}
use Rattle.std.specs.List.{range_with_len}
use Rattle.definitions.specs.Plans.TableSet.{TableSet}
use Rattle.definitions.specs.Estimates.BlockTables.{has}
use Rattle.definitions_execution.specs.Stored.{Composite, row_number}

-- the tables of a set, of the first ones
abbrev pub tables_in : TableSet → ℕ → List ℕ
tables_in tables width = filter (has tables) (range_with_len 0 width)

-- the row of a table among rows that are those of some tables, and 0 where there is none
abbrev pub row_in : List ℕ → List ℕ → ℕ → ℕ
row_in [] rows table = 0
row_in (member ∷ members) rows table =
    if nat_eq member table then get_or rows 0 0 else row_in members (drop 1 rows) table

-- the rows of some tables, and 0 up to the room that there is
abbrev pub packed : ℕ → List ℕ → Composite → List ℕ
packed room members composite = map (row_number composite) members ++ replicate (room - length members) 0

-- the composite of a block of so many tables
abbrev pub unpacked : ℕ → List ℕ → List ℕ → Composite
unpacked width members rows = map (row_in members rows) (range_with_len 0 width)
