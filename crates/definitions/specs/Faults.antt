-- Which faults a statement has over a database.
use Rattle.std.specs.Prelude.{ℕ, Bool, ◌<◌, ◌≤◌, ◌≡◌, List, Some, None, length, map, count_by}
use Rattle.definitions.specs.Lists.{AnyOf}
use Rattle.definitions.specs.Limits.{most_tables, most_columns, most_indexes}
use Rattle.definitions.specs.Refusal.{Refusal, NameTaken, NotFound, OverLimit}
use Rattle.definitions.specs.Value.{IsType}
use Rattle.definitions.specs.Statement.{Name, Select, Constraint, ColumnDefinition, GivenStatistics, Statement}
use Rattle.definitions.specs.Statement.{CreateTable, CreateIndex, Load, SetTableStatistics, SetIndexStatistics, Query}
use Rattle.definitions.specs.Statement.{Explain}
use Rattle.definitions.specs.Table.{Table, Database, table_named, is_key, is_primary, AreDistinct}
use Rattle.definitions.specs.Invariant.{IsCount, IsPageCount}
use Rattle.definitions.specs.IndexFaults.{IndexFaulty, StatisticsFaulty}
use Rattle.definitions.specs.Binding.Faults as binding

abbrev pub definition_names : List ColumnDefinition → List Name
definition_names = map (λ (d : ColumnDefinition). d.name)

-- how many columns ask this of their values
abbrev pub count_of : (Constraint → Bool) → List ColumnDefinition → ℕ
count_of test = count_by (λ (d : ColumnDefinition). test d.constraint)

-- the faults that a statement has over a database, before any file is read; the limits are own
pub data Faulty (db : Database) : Statement → Refusal → Type 0 where
  table_taken : (name : Name) (columns : List ColumnDefinition) (t : Table) → table_named db name ≡ Some t
      → Faulty db (CreateTable name columns) NameTaken
  column_twice : (name : Name) (columns : List ColumnDefinition) → ¬ (AreDistinct (definition_names columns))
      → Faulty db (CreateTable name columns) NameTaken
  many_tables : (name : Name) (columns : List ColumnDefinition) → most_tables ≤ length db
      → Faulty db (CreateTable name columns) OverLimit
  many_columns : (name : Name) (columns : List ColumnDefinition) → most_columns < length columns
      → Faulty db (CreateTable name columns) OverLimit
  no_type : (name : Name) (columns : List ColumnDefinition)
      → AnyOf (λ (d : ColumnDefinition). ¬ (IsType d.type)) columns → Faulty db (CreateTable name columns) OverLimit
  many_keys : (name : Name) (columns : List ColumnDefinition) → most_indexes < count_of is_key columns
      → Faulty db (CreateTable name columns) OverLimit
  two_primary : (name : Name) (columns : List ColumnDefinition) → 1 < count_of is_primary columns
      → Faulty db (CreateTable name columns) OverLimit
  index : (unique : Bool) (table : Name) (columns : List Name) (r : Refusal) → IndexFaulty db table columns r
      → Faulty db (CreateIndex unique table columns) r
  no_such_table : (table : Name) (rows pages : ℕ) → table_named db table ≡ None
      → Faulty db (SetTableStatistics table rows pages) NotFound
  out_of_range : (table : Name) (rows pages : ℕ) → ¬ (IsCount rows × IsPageCount pages)
      → Faulty db (SetTableStatistics table rows pages) OverLimit
  statistics : (table : Name) (columns : List Name) (given : GivenStatistics) (r : Refusal)
      → StatisticsFaulty db table columns given r → Faulty db (SetIndexStatistics table columns given) r
  no_table : (name : Name) (file : List ℕ) → table_named db name ≡ None → Faulty db (Load name file) NotFound
  query : (q : Select) (r : Refusal) → binding.QueryFaulty db q r → Faulty db (Query q) r
  explained : (q : Select) (r : Refusal) → binding.QueryFaulty db q r → Faulty db (Explain q) r

-- a statement without a fault
abbrev pub IsAccepted : Database → Statement → Type 0
IsAccepted db s = (r : Refusal) → Faulty db s r → ⊥
