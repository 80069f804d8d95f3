-- The columns of an index, and the keys in them.
use Rattle.std.specs.Prelude.{ℕ, zero, suc, List, [], ◌∷◌, map}
use Rattle.definitions.specs.Value.{Smallint}
use Rattle.columns.specs.Cells.{CellList}
use Rattle.loading.specs.Stored.{StoredColumn}

-- the cells of the column of a number
abbrev pub cells_at : List StoredColumn → ℕ → CellList
cells_at [] n = record { type = Smallint; values = [] }
cells_at (c ∷ cs) zero = record { type = c.header.type; values = c.values }
cells_at (c ∷ cs) (suc n) = cells_at cs n

abbrev pub key_cells : List StoredColumn → List ℕ → List CellList
key_cells columns = map (cells_at columns)
