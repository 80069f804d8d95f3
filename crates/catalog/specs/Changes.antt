-- What CREATE INDEX and SET STATISTICS do: to a table, and to a database that has the table.
use Rattle.std.specs.Prelude.{ℕ, ◌<◌, ◌≤◌, ◌≡◌, Bool, true, List, Some, None, IfSome, length, map, ⊤}
use Rattle.definitions.specs.Limits.{most_indexes, most_index_columns}
use Rattle.definitions.specs.Value.{SqlType}
use Rattle.definitions.specs.Statement.{Name, CreateIndex}
use Rattle.definitions.specs.Statement.{GivenStatistics as Given}
use Rattle.definitions.specs.Table.{Table, Database, Index, IndexStatistics, AreDistinct, column_numbers, index_on}
use Rattle.definitions.specs.Key.{key_of, AreUnique}
use Rattle.definitions.specs.Change.{with_index, with_index_statistics, first_type, StatisticsKept, RepeatsKeys}
use Rattle.definitions.specs.Faults.{Faulty, IsAccepted}
use Rattle.indexes.specs.Repeats.{IsFirstRepeated}
use Rattle.catalog.specs.Lists.{RefusesList}
use Rattle.catalog.specs.Statistics.{IsGiven, RefusesGiven}
use Rattle.catalog.specs.Loads.{OfTable}
use Rattle.catalog.specs.Meaning.{index_refusal}
use Rattle.catalog.specs.declared.fault.IndexFault.{IndexFault}
use Rattle.catalog.specs.declared.fault.IndexFault.TheVariants as i
use Rattle.definitions.specs.Invariant.{IsCount, IsPageCount}
use Rattle.catalog.specs.declared.fault.TableStatisticsFault.{TableStatisticsFault}
use Rattle.catalog.specs.declared.fault.TableStatisticsFault.TheVariants as t
use Rattle.catalog.specs.declared.fault.StatisticsFault.{StatisticsFault}
use Rattle.catalog.specs.declared.fault.StatisticsFault.TheVariants as f

-- ---- CREATE INDEX

-- a table may get an index on the columns of these names, whose numbers are these
pub record MayIndex (t : Table) (names : List Name) (numbers : List ℕ) : Type 0 where
  pub some : 0 < length names
  pub short : length names ≤ most_index_columns
  pub found : column_numbers t.columns names ≡ Some numbers
  pub distinct : AreDistinct names
  pub free : index_on t.indexes numbers ≡ None
  pub few : length t.indexes < most_indexes

pub record AddsIndex (t : Table) (unique : Bool) (names : List Name) (new : Table) : Type 0 where
  pub numbers : List ℕ
  pub may : MayIndex t names numbers
  pub once : unique ≡ true → AreUnique (map (key_of numbers) t.rows)
  pub is : new ≡ with_index t unique numbers

-- why it gets none
abbrev pub RefusesNewIndex : Table → Bool → List Name → IndexFault → Type 0
RefusesNewIndex t unique names (i.List fault) = RefusesList t.columns names fault
RefusesNewIndex t unique names (i.ColumnTwice column) = ¬ (AreDistinct names)
RefusesNewIndex t unique names (i.ListTaken index) = (numbers : List ℕ) × (taken : Index)
    × (column_numbers t.columns names ≡ Some numbers) × (index_on t.indexes numbers ≡ Some taken)
RefusesNewIndex t unique names i.ManyIndexes = most_indexes ≤ length t.indexes
RefusesNewIndex t unique names (i.Repeated key) = (numbers : List ℕ) × MayIndex t names numbers × (unique ≡ true)
    × IsFirstRepeated (map (key_of numbers) t.rows) key
RefusesNewIndex t unique names i.Memory = ⊤

-- the first row whose key repeats one of an earlier row, in the table of a name
abbrev pub IsRepeatTold : Database → Name → List Name → IndexFault → Type 0
IsRepeatTold db name names (i.Repeated key) =
    OfTable db name (λ t. (numbers : List ℕ) × (column_numbers t.columns names ≡ Some numbers)
    × IsFirstRepeated (map (key_of numbers) t.rows) key)
IsRepeatTold db name names _ = ⊤

-- CREATE INDEX is refused: for repeated keys where it has no fault, and else for a fault, unless memory was wanting
abbrev pub RefusesIndex : Database → Bool → Name → List Name → IndexFault → Type 0
RefusesIndex db unique name names (i.Repeated key) = IsAccepted db (CreateIndex unique name names)
    × RepeatsKeys db (CreateIndex unique name names) × IsRepeatTold db name names (i.Repeated key)
RefusesIndex db unique name names fault = IfSome (index_refusal fault) (Faulty db (CreateIndex unique name names))

-- ---- SET STATISTICS of an index

pub record SetsIndex (t : Table) (names : List Name) (given : Given) (new : Table) : Type 0 where
  pub numbers : List ℕ
  pub index : Index
  pub type : SqlType
  pub kept : IndexStatistics
  pub some : 0 < length names
  pub short : length names ≤ most_index_columns
  pub found : column_numbers t.columns names ≡ Some numbers
  pub on : index_on t.indexes numbers ≡ Some index
  pub first : first_type t.columns names ≡ Some type
  pub may : IsGiven given
  pub keeps : StatisticsKept type given kept
  pub is : new ≡ with_index_statistics t numbers kept

-- why they are not set
abbrev pub RefusesStatistics : Table → List Name → Given → StatisticsFault → Type 0
RefusesStatistics t names given (f.List fault) = RefusesList t.columns names fault
RefusesStatistics t names given f.NoIndex = (numbers : List ℕ) × (column_numbers t.columns names ≡ Some numbers)
    × (index_on t.indexes numbers ≡ None)
RefusesStatistics t names given fault = (type : SqlType) × (first_type t.columns names ≡ Some type)
    × RefusesGiven type given fault

-- ---- SET STATISTICS of a table

abbrev pub RefusesTableStatistics : (rows pages : ℕ) → TableStatisticsFault → Type 0
RefusesTableStatistics rows pages t.NoTable = ⊥
RefusesTableStatistics rows pages t.Rows = ¬ (IsCount rows)
RefusesTableStatistics rows pages t.Pages = ¬ (IsPageCount pages)
