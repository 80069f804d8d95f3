-- What a column of keys keeps.
use Rattle.std.specs.Prelude.{ℕ, ◌≡◌, ◌<◌, ◌*◌, length}
use Rattle.std.specs.List.{AllByRecursion}
use Rattle.std.specs.Int.{div_ceil}
use Rattle.columns.specs.Cells.{CellList}
use Rattle.columns.specs.Columns.{cells_of}
use Rattle.columns.specs.Starts.{value_in, IsHeld}
use Rattle.indexes.specs.declared.key_column.KeyColumn.TheInside.{Inside}

abbrev pub paged_values : Inside → CellList
paged_values keys = cells_of keys.values

-- the first value of each page of 256
pub record IsKeyColumn (keys : Inside) : Type 0 where
  pub pages : length (cells_of keys.heads).values ≡ div_ceil (length (cells_of keys.values).values) 256
  pub heads : (page : ℕ) → page * 256 < length (cells_of keys.values).values
      → value_in (cells_of keys.heads) page ≡ value_in (cells_of keys.values) (page * 256)
  pub held : AllByRecursion (IsHeld (cells_of keys.values).type) (cells_of keys.values).values
