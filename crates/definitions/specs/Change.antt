-- What statements make of the tables of a database.
use Rattle.std.specs.Prelude.{ℕ, ℤ, pos, neg_ℤ, ◌+◌, ◌≡◌, Bool, true, List, [], ◌∷◌, ◌++◌, Option, Some, None}
use Rattle.std.specs.Prelude.{if◌then◌else◌, map, bytes_eq}
use Rattle.std.specs.declared.cmp.Ordering.TheVariants.{Equal}
use Rattle.definitions.specs.Value.{Value, Number, SqlType, HasType, scale_of, compare}
use Rattle.definitions.specs.Statement.{Name, ColumnDefinition, Bound, Range, Statement, CreateTable, CreateIndex}
use Rattle.definitions.specs.Statement.{SetTableStatistics, SetIndexStatistics}
use Rattle.definitions.specs.Statement.{GivenStatistics as Given}
use Rattle.definitions.specs.Table.{Column, Row, TableStatistics, KeyRange, IndexStatistics, Index, Table, Database}
use Rattle.definitions.specs.Table.{table_named, type_named, column_numbers, is_key, is_on}
use Rattle.definitions.specs.Key.{key_of, AreUnique}
use Rattle.definitions.specs.Statistics.{index_statistics, counted_statistics}

-- the column that a definition makes (ISO/IEC 9075:1992, 11.4)
abbrev pub declared_column : ColumnDefinition → Column
declared_column d = record { name = d.name; type = d.type; constraint = d.constraint }

-- an index of no statistics yet
abbrev pub new_index : Bool → List ℕ → Index
new_index unique columns =
    record {
      columns = columns;
      unique = unique;
      statistics = record { keys = 0; pages = 1; clustered = true; range = None };
    }

-- a unique index for each UNIQUE or PRIMARY KEY column, of which the first has the number given (own)
abbrev pub key_indexes : ℕ → List ColumnDefinition → List Index
key_indexes number [] = []
key_indexes number (d ∷ ds) =
    if is_key d.constraint then new_index true (number ∷ []) ∷ key_indexes (number + 1) ds
    else key_indexes (number + 1) ds

-- a table as CREATE TABLE makes it (11.3)
abbrev pub new_table : Name → List ColumnDefinition → Table
new_table name definitions = counted_statistics (record {
  name = name;
  columns = map declared_column definitions;
  indexes = key_indexes 0 definitions;
  rows = [];
  statistics = record { rows = 0; pages = 1 };
})

-- a table with further rows at its end, and its statistics counted anew
abbrev pub with_rows : Table → List Row → Table
with_rows t rows = counted_statistics (record t { rows = t.rows ++ rows })

-- a table with one more index, whose statistics are counted; all other statistics stay (own)
abbrev pub with_index : Table → Bool → List ℕ → Table
with_index t unique columns =
    record t {
      indexes = t.indexes ++ record {
        columns = columns;
        unique = unique;
        statistics = index_statistics t.columns t.rows columns;
      } ∷ [];
    }

-- a table whose own statistics, or those of one index, are replaced (own)
abbrev pub with_table_statistics : Table → TableStatistics → Table
with_table_statistics t statistics = record t { statistics = statistics }

abbrev pub with_index_statistics : Table → List ℕ → IndexStatistics → Table
with_index_statistics t columns statistics =
    record t {
      indexes = map (λ (i : Index). if is_on columns i then record i { statistics = statistics }
          else i) t.indexes;
    }

-- a database with a change to the table of a name
abbrev pub changed : (Table → Table) → Database → Name → Database
changed f [] name = []
changed f (t ∷ ts) name = if bytes_eq t.name name then f t ∷ ts else t ∷ changed f ts name

-- ---- the bounds of SET STATISTICS

abbrev pub bound_units : Bound → ℤ
bound_units b = if b.minus then neg_ℤ (pos b.units) else pos b.units

abbrev pub limit_value : Bound → Value
limit_value b = Number (bound_units b) b.scale

-- the units at a column's scale that a bound is kept as: those of the value of the column's type that is equal to it
-- (own)
abbrev pub KeptAs : SqlType → Bound → ℤ → Type 0
KeptAs type b units =
    HasType type (Number units (scale_of type)) × (compare (Number units (scale_of type)) (limit_value b) ≡ Some Equal)

-- the range that is kept of two bounds, or of none
abbrev pub RangeKept : SqlType → Option Range → Option KeyRange → Type 0
RangeKept type None kept = kept ≡ None
RangeKept type (Some r) kept =
    (low : ℤ) × (high : ℤ) × KeptAs type r.low low × KeptAs type r.high high
    × (kept ≡ Some (record { low = low; high = high }))

-- the statistics that are kept of those of SET STATISTICS
abbrev pub StatisticsKept : SqlType → Given → IndexStatistics → Type 0
StatisticsKept type given kept = (range : Option KeyRange) × RangeKept type given.range range
    × (kept ≡ record { keys = given.keys; pages = given.pages; clustered = given.clustered; range = range })

-- ---- what statements that print OK make of a database

-- the type of the first of some columns
abbrev pub first_type : List Column → List Name → Option SqlType
first_type columns [] = None
first_type columns (name ∷ names) = type_named columns name

pub data Makes (db : Database) (s : Statement) (new : Database) : Type 0 where
  created : (name : Name) (columns : List ColumnDefinition) → s ≡ CreateTable name columns
      → new ≡ db ++ new_table name columns ∷ [] → Makes db s new
  indexed : (unique : Bool) (name : Name) (columns : List Name) (t : Table) (numbers : List ℕ)
      → s ≡ CreateIndex unique name columns
      → table_named db name ≡ Some t → column_numbers t.columns columns ≡ Some numbers
      → (unique ≡ true → AreUnique (map (key_of numbers) t.rows))
      → new ≡ changed (λ u. with_index u unique numbers) db name → Makes db s new
  table_set : (name : Name) (rows pages : ℕ) → s ≡ SetTableStatistics name rows pages
      → new ≡ changed (λ u. with_table_statistics u (record { rows = rows; pages = pages })) db name → Makes db s new
  index_set : (name : Name) (columns : List Name) (given : Given) (t : Table) (numbers : List ℕ) (type : SqlType)
      (kept : IndexStatistics) → s ≡ SetIndexStatistics name columns given
      → table_named db name ≡ Some t → column_numbers t.columns columns ≡ Some numbers
      → first_type t.columns columns ≡ Some type → StatisticsKept type given kept
      → new ≡ changed (λ u. with_index_statistics u numbers kept) db name → Makes db s new

-- CREATE UNIQUE INDEX over rows of which two have one key
pub data RepeatsKeys (db : Database) (s : Statement) : Type 0 where
  repeated : (name : Name) (columns : List Name) (t : Table) (numbers : List ℕ) → s ≡ CreateIndex true name columns
      → table_named db name ≡ Some t → column_numbers t.columns columns ≡ Some numbers
      → ¬ (AreUnique (map (key_of numbers) t.rows)) → RepeatsKeys db s
