-- A table that gets the rows of a file.
use Rattle.std.specs.Prelude.{ℕ, ◌+◌, ◌-◌, ◌≤◌, ◌≡◌, true, List, ◌++◌, length, map, ⊤}
use Rattle.std.specs.List.{AllByRecursion}
use Rattle.definitions.specs.Limits.{most_rows}
use Rattle.definitions.specs.Table.{Row, Table}
use Rattle.definitions.specs.Key.{key_of, AreUnique}
use Rattle.definitions.specs.IndexRun.{IsRun}
use Rattle.definitions.specs.Loading.{Record, AreFileRecords, AllLoad}
use Rattle.loading.specs.Stored.{StoredColumn, headers, rows_of, with_rows}
use Rattle.indexes.specs.Indexes.{StoredIndex, AreIndexColumns}
use Rattle.indexes.specs.Extension.{AreExtended}
use Rattle.indexes.specs.declared.extension.RepeatedRow.{RepeatedRow}
use Rattle.catalog.specs.declared.growth.Grown.{Grown}
use Rattle.catalog.specs.declared.fault.LoadFault.{LoadFault}
use Rattle.catalog.specs.declared.fault.LoadFault.TheVariants as l
use Rattle.catalog.specs.declared.fault.EarlierRow.{EarlierRow}
use Rattle.catalog.specs.declared.fault.EarlierRow.TheVariants as e

-- an index has so many rows of columns, in order, and no key twice if it is unique
pub record IsOrdered (columns : List StoredColumn) (n : ℕ) (i : StoredIndex) : Type 0 where
  pub on : AreIndexColumns (length columns) i.index.columns
  pub run : IsRun (map (key_of i.index.columns) (rows_of n columns)) i.entries
  pub once : i.index.unique ≡ true → AreUnique (map (key_of i.index.columns) (rows_of n columns))

abbrev pub AreOrdered : List StoredColumn → ℕ → List StoredIndex → Type 0
AreOrdered columns n = AllByRecursion (IsOrdered columns n)

-- a table of these columns, indexes and rows
pub record IsOf (cs : List StoredColumn) (is : List StoredIndex) (n : ℕ) (t : Table) : Type 0 where
  pub columns : t.columns ≡ headers cs
  pub indexes : t.indexes ≡ map (λ (i : StoredIndex). i.index) is
  pub rows : t.rows ≡ rows_of n cs

-- the rows of a file are behind those of a table, in its columns and in its indexes
pub record Grows (t : Table) (bytes : List ℕ) (indexes : List StoredIndex) (old new : List StoredColumn) (grown : Grown)
    : Type 0 where
  pub records : List Record
  pub rows : List Row
  pub read : AreFileRecords bytes records
  pub loads : AllLoad t t.rows records rows
  pub few : length t.rows + length rows ≤ most_rows
  pub count : grown.rows ≡ length rows
  pub added : new ≡ with_rows old rows
  pub extended : AreExtended t.columns (t.rows ++ rows) indexes grown.indexes.items

-- the number of a row from 0, behind so many that a table had
abbrev pub row_before : ℕ → EarlierRow → ℕ
row_before had (e.Stored row) = row - 1
row_before had (e.Loaded record') = had + record' - 1

-- a fault tells of a repeated row as a record behind so many rows, unless memory was wanting
abbrev pub TellsRepeated : ℕ → RepeatedRow → LoadFault → Type 0
TellsRepeated had repeated (l.Repeated r) = (r.index ≡ repeated.index) × (row_before had r.earlier ≡ repeated.earlier)
    × (had + r.number ≡ repeated.row + 1)
TellsRepeated had repeated l.Memory = ⊤
TellsRepeated had repeated _ = ⊥
