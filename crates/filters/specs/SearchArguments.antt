-- What conditions ask of a table's rows, where the values that they compare with are known.
use Rattle.std.specs.Prelude.{ℕ, ◌≡◌, ◌<◌, ⊤, Bool, ◌&&◌, List, [], ◌∷◌, Option, Some, None, get_or, is_none, length}
use Rattle.definitions.specs.Table.{Table}
use Rattle.definitions.specs.Statement.{Equals}
use Rattle.definitions.specs.Truth.{compared, is_true, truth_of}
use Rattle.definitions.specs.Value.{Value, Null, is_null}
use Rattle.definitions.specs.Estimates.BlockTables.{table_at}
use Rattle.definitions.specs.Queries.BoundBlock as b
use Rattle.definitions.specs.Queries.Evaluation.{Combination}
use Rattle.definitions_execution.specs.OfBlock.{rows_in}
use Rattle.definitions_execution.specs.Stored.{Composite}
use Rattle.sqlvalue.specs.Meaning.{op_of, value_of}
use Rattle.filters.specs.Sources.{BlockSource, block_in}
use Rattle.filters.specs.JoinFilters.{true_with}
use Rattle.filters.specs.Compiled.{conditions_of}
use Rattle.filters.specs.declared.join_filter.JoinFilter.{JoinFilter}
use Rattle.filters.specs.declared.search_argument.SearchArgument.{SearchArgument}
use Rattle.filters.specs.declared.search_argument.SearchArguments.{SearchArguments}
use Rattle.filters.specs.declared.search_argument.SearchArguments.TheVariants as s

-- a comparison is true of a row of a table
abbrev pub meets : BlockSource → (table : ℕ) → SearchArgument → (row : ℕ) → Bool
meets source table a row =
    is_true
    (compared (op_of a.op) (get_or (get_or (rows_in source.database (block_in source) table) row []) a.column Null)
    (value_of a.value))

-- and all are
abbrev pub meets_all : BlockSource → (table : ℕ) → SearchArguments → (row : ℕ) → Bool
meets_all source table (s.One a) row = meets source table a row
meets_all source table (s.Both low high) row = meets source table low row && meets source table high row

-- the value of a row in a column; where there is none, null (own)
abbrev pub value_in : BlockSource → (table column row : ℕ) → Value
value_in source table column row = get_or (get_or (rows_in source.database (block_in source) table) row []) column Null

-- it is null
abbrev pub is_null_in : BlockSource → (table column row : ℕ) → Bool
is_null_in source table column row = is_null (value_in source table column row)

-- it is unknown whether it is equal to another
abbrev pub is_unknown_in : BlockSource → (table column : ℕ) → Value → (row : ℕ) → Bool
is_unknown_in source table column v row = is_none (truth_of Equals (value_in source table column row) v)

-- a table has a column of a number
abbrev pub IsColumnOf : BlockSource → (table column : ℕ) → Type 0
IsColumnOf source table column =
    (t : Table) → table_at source.database (block_in source) table ≡ Some t → column < length t.columns

abbrev pub AreOfTable : BlockSource → (table : ℕ) → SearchArguments → Type 0
AreOfTable source table (s.One a) = IsColumnOf source table a.column
AreOfTable source table (s.Both low high) = IsColumnOf source table low.column × IsColumnOf source table high.column

-- a condition is true of the rows that come to a composite on which they are
pub record AreArgumentsOf (source : BlockSource) (outer : List Combination) (from : Composite) (table : ℕ) (condition : b.Condition) (arguments : SearchArguments) : Type 0 where
  pub columns : AreOfTable source table arguments
  pub same : (row : ℕ) → true_with source outer from table condition row ≡ meets_all source table arguments row

-- they are those of the first condition that a join filter tests, if they are given
abbrev pub AreOfFirst : BlockSource → List Combination → Composite → (table : ℕ) → List b.Condition → SearchArguments → Type 0
AreOfFirst source outer from table [] arguments = ⊥
AreOfFirst source outer from table (condition ∷ others) arguments = AreArgumentsOf source outer from table condition arguments

abbrev pub AreToldOf : BlockSource → List Combination → Composite → JoinFilter → Option SearchArguments → Type 0
AreToldOf source outer from join_filter None = ⊤
AreToldOf source outer from join_filter (Some arguments) =
    AreOfFirst source outer from join_filter.table (conditions_of join_filter.filters.items) arguments
