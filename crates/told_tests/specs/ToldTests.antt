-- Late conjuncts that compare a column's value with what was told of a subquery.
use Rattle.std.specs.Prelude.{ℕ, ℤ, ◌≡◌, ◌*ℤ◌, ◌-◌, ◌^◌, ◌⊎◌, pos, Bool, true, false, not, List, [], ◌∷◌, IfSome, None, Option, Result, Some, filter, flat_map, get_or, map}
use Rattle.std.specs.Ordering.{int_cmp}
use Rattle.definitions.specs.Arithmetic.{Is, Raise}
use Rattle.definitions.specs.Statement.{Equals}
use Rattle.definitions.specs.Truth.{agrees, compared, compared_with_any, known, unless, Unknown}
use Rattle.definitions.specs.Value.{Value, Null, Number, number_cmp}
use Rattle.definitions.specs.Queries.BoundBlock.{Condition}
use Rattle.definitions.specs.Queries.Evaluation.{cell, truth, Combination, Environment}
use Rattle.definitions_answers.specs.Told.{told_environment}
use Rattle.definitions_execution.specs.OfBlock.{combination_of}
use Rattle.definitions_execution.specs.Stored.{Composite}
use Rattle.sqlvalue.specs.Meaning.{number_of, op_of}
use Rattle.sqlvalue.specs.declared.number.Num.{Num}
use Rattle.sqlvalue.specs.declared.op.ComparisonOperator.{ComparisonOperator}
use Rattle.query_tree.specs.Bound.{column_of}
use Rattle.query_tree.specs.declared.leaf.BlockColumn.{BlockColumn}
use Rattle.filters.specs.Sources.{block_in, BlockSource}
use Rattle.subqueries.specs.Keeping.{told_by}
use Rattle.subqueries.specs.declared.kept_results.KeptResults.{KeptResults}
use Rattle.told_tests.specs.LateTests.{are_true_at, raised_at}
use Rattle.told_tests.specs.UnitSets.{has}
use Rattle.told_tests.specs.declared.told_test.Asked.{Asked}
use Rattle.told_tests.specs.declared.told_test.Asked.TheVariants as a
use Rattle.told_tests.specs.declared.told_test.Scaled.{Scaled}
use Rattle.told_tests.specs.declared.told_test.ToldTest.{ToldTest}

-- the other way round where it is negated
abbrev pub is_unless : (negated : Bool) → Bool → Bool
is_unless true b = not b
is_unless false b = b

abbrev pub meets : Asked → ℤ → Bool
meets (a.Compared op factor units number) unit = agrees (op_of op) (int_cmp (unit *ℤ factor) units)
meets (a.Listed negated units) unit = is_unless negated (has units unit)

-- a number of so many units, at the test's scale, passes it
abbrev pub passes : ToldTest → ℤ → Bool
passes test unit = meets test.asked unit

-- the operator and the number of a comparison that has the column on its left
abbrev pub comparison_of : Asked → Option (ComparisonOperator × Num)
comparison_of (a.Compared op factor units number) = Some (op, number)
comparison_of (a.Listed negated units) = None

-- where a number of the test's scale is in its column, a condition is as true as the test tells, by what was told of its
-- subqueries; and unknown where null is there; and where the test is a comparison, the condition is that of whatever is
-- there
pub record IsTestOf (told : ℕ → Result (List Value) Raise) (test : ToldTest) (condition : Condition) : Type 0 where
  pub number : (env : Environment) (unit : ℤ) → cell env.combination (column_of test.column) ≡ Number unit test.scale
      → truth (told_environment env told) condition ≡ Is (known (passes test unit))
  pub null : (env : Environment) → cell env.combination (column_of test.column) ≡ Null
      → truth (told_environment env told) condition ≡ Is Unknown
  pub compares : IfSome (comparison_of test.asked) (λ asked. (env : Environment)
      → truth (told_environment env told) condition
      ≡ Is (compared (op_of asked.0) (cell env.combination (column_of test.column)) (number_of asked.1)))

-- it is that of the one condition that there is
abbrev pub IsTestOfAll : (told : ℕ → Result (List Value) Raise) → ToldTest → List Condition → Type 0
IsTestOfAll told test (condition ∷ []) = IsTestOf told test condition
IsTestOfAll told test _ = ⊥

-- a test is that of a comparison of a column's numbers of a scale with a number
pub record ComparesWith (own : BlockColumn) (digits : ℕ) (op : ComparisonOperator) (number : Num) (test : ToldTest)
    : Type 0 where
  pub column : test.column ≡ own
  pub scale : test.scale ≡ digits
  pub compares : (unit : ℤ)
      → passes test unit ≡ agrees (op_of op) (number_cmp unit digits number.units number.scale)
  pub comparison : comparison_of test.asked ≡ Some (op, number)

-- by a factor units of a scale stand for the same number at a scale that a number's units are brought to
pub record IsScaledTo (digits : ℕ) (number : Num) (scaled : Scaled) : Type 0 where
  pub factor : scaled.factor ≡ pos (10 ^ (number.scale - digits))
  pub units : scaled.units ≡ number.units *ℤ pos (10 ^ (digits - number.scale))

-- or of IN or NOT IN
pub record ListsValues (own : BlockColumn) (digits : ℕ) (negated : Bool) (values : List Value) (test : ToldTest)
    : Type 0 where
  pub column : test.column ≡ own
  pub scale : test.scale ≡ digits
  pub lists : (unit : ℤ)
      → unless negated (compared_with_any Equals (Number unit digits) values) ≡ known (passes test unit)
  pub null : compared_with_any Equals Null values ≡ Unknown
  pub comparison : comparison_of test.asked ≡ None

-- what a test tells of a value: of a number of its scale whether it passes, and null doesn't
abbrev pub TellsOf : ToldTest → Value → (passed : Bool) → Type 0
TellsOf test value passed =
    ((unit : ℤ) × (value ≡ Number unit test.scale) × (passed ≡ passes test unit))
    ⊎ ((value ≡ Null) × (passed ≡ false))

-- whether a value passes; one that is no number doesn't
abbrev pub passes_value : ToldTest → Value → Bool
passes_value test (Number unit scale) = passes test unit
passes_value test _ = false

-- and of that in its column, of a composite
abbrev pub IsTestedAs : BlockSource → Composite → ToldTest → (passed : Bool) → Type 0
IsTestedAs source composite test passed =
    TellsOf test (cell (combination_of source.database (block_in source) composite) (column_of test.column)) passed

-- whether a composite passes by that in its column; and that it is one of which the test tells so
abbrev pub passes_at : BlockSource → ToldTest → Composite → Bool
passes_at source test composite =
    passes_value test (cell (combination_of source.database (block_in source) composite) (column_of test.column))

abbrev pub IsTested : BlockSource → ToldTest → Composite → Type 0
IsTested source test composite = IsTestedAs source composite test (passes_at source test composite)

-- some places of composites are those, in order, where the conjuncts are true that the test is one of
abbrev pub AreWhereTrue : BlockSource → ToldTest → List Composite → (places : List ℕ) → Type 0
AreWhereTrue source test items places =
    (outer : List Combination) (results : List KeptResults) (late : List Condition)
    → IsTestOfAll (told_by results) test late
    → map (λ place. get_or items place []) places ≡ filter (are_true_at source outer results late) items

-- and none of these raises on any of the composites
abbrev pub RaisesOnNone : BlockSource → ToldTest → List Composite → Type 0
RaisesOnNone source test items =
    (outer : List Combination) (results : List KeptResults) (late : List Condition)
    → IsTestOfAll (told_by results) test late → flat_map (raised_at source outer results late) items ≡ []
