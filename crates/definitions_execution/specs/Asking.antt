-- What a conjunct asks of a column: its value, where it is equal to another, or a range of values (Selinger et al.
-- 1979, section 4: what a boolean factor that matches an index asks of its keys).
use Rattle.std.specs.Prelude.{ℕ, ◌<◌, length, slice_get, ◌≡◌, set, Bool, false, not, ◌&&◌, Option, Some, None}
use Rattle.std.specs.Ordering.{is_eq}
use Rattle.definitions.specs.Value.{Value, SqlType, compare, is_null}
use Rattle.definitions.specs.Statement.{ComparisonOperator, Equals, NotEquals, LessThan, GreaterThan, LessOrEquals}
use Rattle.definitions.specs.Statement.{GreaterOrEquals}
use Rattle.definitions.specs.IndexRun.{Limit, Unlimited, Inclusive, Exclusive, is_true_of, is_from, is_up_to}
use Rattle.definitions.specs.Arithmetic.{Is}
use Rattle.definitions.specs.Plans.TableSet.{Lacks}
use Rattle.definitions.specs.Plans.Order.{BlockColumn}
use Rattle.definitions.specs.Queries.BoundBlock.{ValueExpr, Column, Condition, Compare, Between, Block}
use Rattle.definitions.specs.Queries.CanRaise.{can_raise}
use Rattle.definitions.specs.Queries.Conjuncts.{conjuncts, tables_named}
use Rattle.definitions.specs.Queries.Evaluation.{Combination, cell, value, truth}
use Rattle.definitions.specs.Queries.Combinations.{Context, at, is_surely_true}
use Rattle.definitions.specs.Estimates.Paths.{turned}
use Rattle.definitions_execution.specs.Stored.{Composite}
use Rattle.definitions_execution.specs.OfBlock.{combination_of, stored_of}

-- a column is to equal a value, or it is not to be null and to lie in a range
pub data ScanKey : Type 0 where
  EqualTo : (value : Value) → ScanKey
  InRange : (low high : Limit) → ScanKey

abbrev pub meets : ScanKey → Value → Bool
meets (EqualTo v) k = is_true_of is_eq (compare k v)
meets (InRange low high) k = not (is_null k) && is_from low k && is_up_to high k

-- by column op value; nothing is asked by `<>`
abbrev pub asked_by : ComparisonOperator → Value → Option ScanKey
asked_by Equals v = Some (EqualTo v)
asked_by NotEquals v = None
asked_by LessThan v = Some (InRange Unlimited (Exclusive v))
asked_by GreaterThan v = Some (InRange (Exclusive v) Unlimited)
asked_by LessOrEquals v = Some (InRange Unlimited (Inclusive v))
asked_by GreaterOrEquals v = Some (InRange (Inclusive v) Unlimited)

-- a condition is true exactly where a column has what is asked of it
abbrev pub AsksOf : Context → Combination → BlockColumn → Condition → ScanKey → Type 0
AsksOf context combination column condition asked =
    is_surely_true (truth (at context combination) condition) ≡ meets asked (cell combination column)

abbrev pub ComparisonAsks : Type 0
ComparisonAsks =
    (context : Context) (combination : Combination) (column : BlockColumn) (type : SqlType) (op : ComparisonOperator)
    (e : ValueExpr) (v : Value) (asked : ScanKey)
    → value (at context combination) e ≡ Is v → asked_by op v ≡ Some asked
    → AsksOf context combination column (Compare op (Column column type) e) asked

abbrev pub TurnedComparisonAsks : Type 0
TurnedComparisonAsks =
    (context : Context) (combination : Combination) (column : BlockColumn) (type : SqlType) (op : ComparisonOperator)
    (e : ValueExpr) (v : Value) (asked : ScanKey)
    → value (at context combination) e ≡ Is v → asked_by (turned op) v ≡ Some asked
    → AsksOf context combination column (Compare op e (Column column type)) asked

abbrev pub BetweenAsks : Type 0
BetweenAsks =
    (context : Context) (combination : Combination) (column : BlockColumn) (type : SqlType) (e f : ValueExpr)
    (v w : Value)
    → value (at context combination) e ≡ Is v → value (at context combination) f ≡ Is w
    → AsksOf context combination column (Between false (Column column type) e f) (InRange (Inclusive v) (Inclusive w))

-- the same, whatever row of the table is taken, of a conjunct `column op value`, `value op column` or `column BETWEEN
-- value AND value`
module _ (context : Context) (block : Block) (composite : Composite) (table column : ℕ) where
  abbrev pub key_column : BlockColumn
  key_column = record { table = table; number = column }

  -- a value that is known before a row of the table is taken
  abbrev pub IsKnownValue : ValueExpr → Value → Type 0
  IsKnownValue e v =
      (can_raise e ≡ false) × Lacks (tables_named e) table
      × (value (at context (combination_of context.database block composite)) e ≡ Is v)

  abbrev pub Asks : Condition → ScanKey → Type 0
  Asks condition asked = (number : ℕ) → slice_get (conjuncts block) number ≡ Some condition
      → (row : ℕ) → (stored_of context block).holds number (set composite table row)
      ≡ meets asked ((stored_of context block).value_in key_column row)

  abbrev pub KnownValuesAsk : Type 0
  KnownValuesAsk = table < length composite
      → ((type : SqlType) (op : ComparisonOperator) (e : ValueExpr) (v : Value) (asked : ScanKey) → IsKnownValue e v
      → asked_by op v ≡ Some asked → Asks (Compare op (Column key_column type) e) asked)
      × ((type : SqlType) (op : ComparisonOperator) (e : ValueExpr) (v : Value) (asked : ScanKey) → IsKnownValue e v
      → asked_by (turned op) v ≡ Some asked → Asks (Compare op e (Column key_column type)) asked)
      × ((type : SqlType) (e f : ValueExpr) (v w : Value) → IsKnownValue e v → IsKnownValue f w
      → Asks (Between false (Column key_column type) e f) (InRange (Inclusive v) (Inclusive w)))

abbrev pub ConjunctsAsk : Type 0
ConjunctsAsk =
    (context : Context) (block : Block) (composite : Composite) (table column : ℕ)
    → KnownValuesAsk context block composite table column
