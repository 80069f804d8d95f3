-- The keys of rows, in columns.
use Rattle.std.specs.Prelude.{ℕ, ◌≡◌, List, [], ◌∷◌, length, map}
use Rattle.std.specs.List.{AllByRecursion, range_with_len}
use Rattle.std.specs.Borrow.{Bor}
use Rattle.definitions.specs.Value.{SqlType}
use Rattle.definitions.specs.Key.{Key, distinct_keys, full_keys}
use Rattle.definitions.specs.IndexRun.{Entry}
use Rattle.columns.specs.Cells.{CellList}
use Rattle.columns.specs.Columns.{cells_of}
use Rattle.columns.specs.Starts.{value_in}
use Rattle.columns.specs.declared.column.Column.{Column}

-- lent columns
abbrev pub columns_of : List (Bor Column) → List CellList
columns_of = map (λ column. cells_of column.now)

abbrev pub types_of : List CellList → List SqlType
types_of = map (λ (column : CellList). column.type)

-- how many rows columns have
abbrev pub height : List CellList → ℕ
height [] = 0
height (column ∷ columns) = length column.values

-- columns of one table: all have as many rows
abbrev pub AreOfHeight : ℕ → List CellList → Type 0
AreOfHeight rows = AllByRecursion (λ (column : CellList). length column.values ≡ rows)

-- a column's values in some rows
abbrev pub gathered : List ℕ → CellList → CellList
gathered rows column = record column { values = map (value_in column) rows }

-- the key of a row, and those of all rows
abbrev pub key_in : List CellList → ℕ → Key
key_in columns row = map (λ column. value_in column row) columns

abbrev pub keys_in : List CellList → List Key
keys_in columns = map (key_in columns) (range_with_len 0 (height columns))

-- an entry for a row
abbrev pub entry_in : List CellList → ℕ → Entry
entry_in columns row = record { row = row; key = key_in columns row }

-- how many keys without a null some rows have, equal ones counted once
abbrev pub count_keys : List CellList → List ℕ → ℕ
count_keys columns rows = length (distinct_keys (full_keys (map (key_in columns) rows)))
