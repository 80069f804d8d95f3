-- Which faults a list of columns, an index and its statistics have over a database (own).
use Rattle.std.specs.Prelude.{ℕ, ℤ, ◌<◌, ◌≤◌, ◌≡◌, List, [], Some, None, length}
use Rattle.std.specs.declared.cmp.Ordering.TheVariants.{Greater}
use Rattle.definitions.specs.Limits.{most_indexes, most_index_columns}
use Rattle.definitions.specs.Refusal.{Refusal, NameTaken, NotFound, OverLimit, MixedKinds}
use Rattle.definitions.specs.Value.{SqlType, Numbers, Texts, kind_of, compare}
use Rattle.definitions.specs.Statement.{Name, Bound, Range, GivenStatistics}
use Rattle.definitions.specs.Table.{Index, Table, Database, table_named, column_numbers, index_on, AreDistinct}
use Rattle.definitions.specs.Change.{limit_value, KeptAs, first_type}
use Rattle.definitions.specs.Invariant.{IsCount, IsPageCount}

-- the faults of a list of columns of a table
pub data ListFaulty (db : Database) (table : Name) (columns : List Name) : Refusal → Type 0 where
  no_table : table_named db table ≡ None → ListFaulty db table columns NotFound
  no_column : (t : Table) → table_named db table ≡ Some t → column_numbers t.columns columns ≡ None
      → ListFaulty db table columns NotFound
  empty : columns ≡ [] → ListFaulty db table columns NotFound
  many : most_index_columns < length columns → ListFaulty db table columns OverLimit

-- the faults of CREATE INDEX, but for keys that repeat, which are told where there is no other
pub data IndexFaulty (db : Database) (table : Name) (columns : List Name) : Refusal → Type 0 where
  list : (r : Refusal) → ListFaulty db table columns r → IndexFaulty db table columns r
  twice : ¬ (AreDistinct columns) → IndexFaulty db table columns NameTaken
  taken : (t : Table) (numbers : List ℕ) (i : Index) → table_named db table ≡ Some t
      → column_numbers t.columns columns ≡ Some numbers → index_on t.indexes numbers ≡ Some i
      → IndexFaulty db table columns NameTaken
  many : (t : Table) → table_named db table ≡ Some t → most_indexes ≤ length t.indexes
      → IndexFaulty db table columns OverLimit

-- the low bound is the greater one
abbrev pub Falls : Range → Type 0
Falls r = compare (limit_value r.low) (limit_value r.high) ≡ Some Greater

-- no value of a type is equal to a bound
abbrev pub NeverKept : SqlType → Bound → Type 0
NeverKept type b = (units : ℤ) → KeptAs type b units → ⊥

-- the faults of LOW and HIGH for a first column of a type
pub data BoundsFaulty (type : SqlType) (r : Range) : Refusal → Type 0 where
  low_unfit : kind_of type ≡ Numbers → NeverKept type r.low → BoundsFaulty type r OverLimit
  high_unfit : kind_of type ≡ Numbers → NeverKept type r.high → BoundsFaulty type r OverLimit
  text : kind_of type ≡ Texts → BoundsFaulty type r MixedKinds

-- the faults of SET STATISTICS for an index
pub data StatisticsFaulty (db : Database) (table : Name) (columns : List Name) (given : GivenStatistics) : Refusal
    → Type 0 where
  list : (r : Refusal) → ListFaulty db table columns r → StatisticsFaulty db table columns given r
  no_index : (t : Table) (numbers : List ℕ) → table_named db table ≡ Some t
      → column_numbers t.columns columns ≡ Some numbers → index_on t.indexes numbers ≡ None
      → StatisticsFaulty db table columns given NotFound
  out_of_range : ¬ (IsCount given.keys × IsPageCount given.pages) → StatisticsFaulty db table columns given OverLimit
  fall : (r : Range) → given.range ≡ Some r → Falls r → StatisticsFaulty db table columns given OverLimit
  bounds : (t : Table) (type : SqlType) (r : Range) (refusal : Refusal) → table_named db table ≡ Some t
      → first_type t.columns columns ≡ Some type
      → given.range ≡ Some r → BoundsFaulty type r refusal → StatisticsFaulty db table columns given refusal
