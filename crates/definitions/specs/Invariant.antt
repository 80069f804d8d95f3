-- What holds of every table, and every database, that statements make (the limits are own).
use Rattle.std.specs.Prelude.{ℕ, ◌<◌, ◌≤◌, ◌≡◌, ◌≤ℤ◌, ⊤, List, [], ◌∷◌, Option, Some, None, length, map, count_by}
use Rattle.std.specs.Prelude.{slice_get, option_map, true, IsTrue, IsFalse, not, ◌||◌, bytes_eq}
use Rattle.std.specs.List.{AllByRecursion, AllZip}
use Rattle.definitions.specs.Limits.{most_tables, most_columns, most_rows, most_indexes, most_index_columns}
use Rattle.definitions.specs.Limits.{greatest_statistic}
use Rattle.definitions.specs.Value.{SqlType, IsType, IsInRange, is_null}
use Rattle.definitions.specs.Table.{Column, Row, KeyRange, Index, Table, Database, may_be_null, is_primary, IsRow}
use Rattle.definitions.specs.Table.{AreDistinct, column_names}
use Rattle.definitions.specs.Key.{key_of, AreUnique}

-- a count of rows or keys, and one of pages, of which there is one at least
abbrev pub IsCount : ℕ → Type 0
IsCount n = n ≤ greatest_statistic

abbrev pub IsPageCount : ℕ → Type 0
IsPageCount n = (1 ≤ n) × (n ≤ greatest_statistic)

-- no null where none may be (ISO/IEC 9075:1992, 11.8)
abbrev pub KeepsNullsOut : List Column → Row → Type 0
KeepsNullsOut columns row = AllZip (λ (c : Column) v. IsTrue (may_be_null c.constraint || not (is_null v))) columns row

-- the type of a column, and of the first of some
abbrev pub type_at : List Column → List ℕ → Option SqlType
type_at columns [] = None
type_at columns (number ∷ numbers) = option_map (λ (c : Column). c.type) (slice_get columns number)

-- a range of keys doesn't fall, and its bounds are of the type of the first column
abbrev pub IsRange : Option SqlType → Option KeyRange → Type 0
IsRange type None = ⊤
IsRange None (Some range) = ⊥
IsRange (Some type) (Some range) = (range.low ≤ℤ range.high) × IsInRange type range.low × IsInRange type range.high

-- an index is on one to four columns of the table, each once
pub record IsIndex (t : Table) (i : Index) : Type 0 where
  pub some : 1 ≤ length i.columns
  pub columns : length i.columns ≤ most_index_columns
  pub there : AllByRecursion (λ n. n < length t.columns) i.columns
  pub keys : IsCount i.statistics.keys
  pub pages : IsPageCount i.statistics.pages
  pub range : IsRange (type_at t.columns i.columns) i.statistics.range
  pub unique : i.unique ≡ true → AreUnique (map (key_of i.columns) t.rows)

-- no two indexes are on one list of columns
abbrev pub AreApart : List Index → Type 0
AreApart [] = ⊤
AreApart (i ∷ indexes) =
    AllByRecursion (λ (j : Index). IsFalse (bytes_eq i.columns j.columns)) indexes × AreApart indexes

pub record IsTable (t : Table) : Type 0 where
  pub columns : length t.columns ≤ most_columns
  pub rows : length t.rows ≤ most_rows
  pub indexes : length t.indexes ≤ most_indexes
  pub primary : count_by (λ (c : Column). is_primary c.constraint) t.columns ≤ 1
  pub distinct : AreDistinct (column_names t.columns)
  pub types : AllByRecursion (λ (c : Column). IsType c.type) t.columns
  pub typed : AllByRecursion (IsRow t.columns) t.rows
  pub no_nulls : AllByRecursion (KeepsNullsOut t.columns) t.rows
  pub each_index : AllByRecursion (IsIndex t) t.indexes
  pub apart : AreApart t.indexes
  pub row_count : IsCount t.statistics.rows
  pub page_count : IsPageCount t.statistics.pages

pub record IsDatabase (db : Database) : Type 0 where
  pub tables : length db ≤ most_tables
  pub distinct : AreDistinct (map (λ (t : Table). t.name) db)
  pub each : AllByRecursion IsTable db
