-- What the expressions of a bound block mean.
use Rattle.std.specs.Prelude.{ℕ, pos, Bool, true, false, List, [], ◌∷◌, Option, Some, None, get_or, map}
use Rattle.definitions.specs.Value.{Value, Null, Number, Text, is_null}
use Rattle.definitions.specs.Table.{Row}
use Rattle.definitions.specs.Statement.{ComparisonOperator, Equals, GreaterOrEquals, LessOrEquals}
use Rattle.definitions.specs.Arithmetic.{Meaning, Is, Raises, raised, Cardinality, negative, plus, minus, times, over}
use Rattle.definitions.specs.Truth.{Truth, and, known, unless, opposite, all_true, any_true, compared}
use Rattle.definitions.specs.Truth.{compared_with_all, compared_with_any, has_row}
use Rattle.definitions.specs.Pattern.{like}
use Rattle.definitions.specs.Plans.Order.{BlockColumn}
use Rattle.definitions.specs.Queries.BoundBlock.{Operator, Plus, Minus, Times, Over, ValueExpr, Column, Parameter}
use Rattle.definitions.specs.Queries.BoundBlock.{Numeral, String, Signed, Chain, AggregateValue, Subquery, Operands}
use Rattle.definitions.specs.Queries.BoundBlock.{NoOperand, Operand, Condition, Conditions, NoPart, Part, Compare}
use Rattle.definitions.specs.Queries.BoundBlock.{Quantified, IsNull, Between, Like, InList, InQuery, Exists, Not, And}
use Rattle.definitions.specs.Queries.BoundBlock.{Or}
use Rattle.definitions.specs.Statement.{Quantifier, All, Any}

-- one row of each table of a block
abbrev pub Combination : Type 0
Combination = List Row

-- what an expression is evaluated in: the block's combination of rows, those of the blocks around it, the nearest
-- first, the values of the set functions over a group, and the rows of each inner block
pub record Environment : Type 0 where
  pub combination : Combination
  pub outer : List Combination
  pub functions : List (Meaning Value)
  pub inner : ℕ → Meaning (List Row)

-- ---- evaluation is strict: all operands are evaluated, in text order, and the first that raises decides what is
-- raised (own; the standard leaves the order open, ISO/IEC 9075:1992, 3.3.4.4)

-- what is made of one operand's result, where the making may raise (and_then), and where it can't (on_one)
abbrev pub and_then : {X Y : Type 0} → (X → Meaning Y) → Meaning X → Meaning Y
and_then f (Is x) = f x
and_then f (Raises r rs) = Raises r rs

abbrev pub on_one : {X Y : Type 0} → (X → Y) → Meaning X → Meaning Y
on_one f = and_then (λ x. Is (f x))

-- and of two operands' results
abbrev pub and_then_two : {X Y Z : Type 0} → (X → Y → Meaning Z) → Meaning X → Meaning Y → Meaning Z
and_then_two f a b = and_then (λ x. and_then (f x) b) a

abbrev pub on_two : {X Y Z : Type 0} → (X → Y → Z) → Meaning X → Meaning Y → Meaning Z
on_two f = and_then_two (λ x y. Is (f x y))

-- the results of a list of operands
abbrev pub in_order : {X : Type 0} → List (Meaning X) → Meaning (List X)
in_order [] = Is []
in_order (m ∷ ms) = on_two ◌∷◌ m (in_order ms)

-- ---- values

-- the value in a column of a combination (6.4)
abbrev pub cell : Combination → BlockColumn → Value
cell combination column = get_or (get_or combination column.table []) column.number Null

-- a value under a sign (6.12)
abbrev pub signed : Bool → Value → Value
signed true v = negative v
signed false v = v

abbrev pub operation : Operator → Value → Value → Meaning Value
operation Plus = plus
operation Minus = minus
operation Times = times
operation Over = over

-- a subquery as a value: null of no row, an exception of more than one (7.11)
abbrev pub only_value : List Row → Meaning Value
only_value [] = Is Null
only_value (row ∷ []) = Is (get_or row 0 Null)
only_value _ = raised Cardinality

-- operands of one level associate to the left (6.12)
abbrev mutual
  pub value : Environment → ValueExpr → Meaning Value
  value env (Column column type) = Is (cell env.combination column)
  value env (Parameter between column type) = Is (cell (get_or env.outer between []) column)
  value env (Numeral units digits scale) = Is (Number (pos units) scale)
  value env (String codes) = Is (Text codes)
  value env (Signed minus operand) = on_one (signed minus) (value env operand)
  value env (Chain first others) = chained env (value env first) others
  value env (AggregateValue number type) = get_or env.functions number (Is Null)
  value env (Subquery block type) = and_then only_value (env.inner block)

  pub chained : Environment → Meaning Value → Operands → Meaning Value
  chained env left NoOperand = left
  chained env left (Operand operator operand others) =
      chained env (and_then_two (operation operator) left (value env operand)) others

-- ---- conditions

-- the values of a subquery of one column
abbrev pub column_values : List Row → List Value
column_values = map (λ (row : Row). get_or row 0 Null)

-- a member of an IN list (8.4; NULL as a member is own)
abbrev pub member : Environment → Option ValueExpr → Meaning Value
member env (Some e) = value env e
member env None = Is Null

abbrev pub quantified : Quantifier → ComparisonOperator → Value → List Value → Truth
quantified All = compared_with_all
quantified Any = compared_with_any

-- x BETWEEN y AND z is x >= y AND x <= z; x IN (..) is x = ANY (..) (8.3, 8.4)
abbrev mutual
  pub truth : Environment → Condition → Meaning Truth
  truth env (Compare op left right) = on_two (compared op) (value env left) (value env right)
  truth env (Quantified op quantifier e block) =
      on_two (quantified quantifier op) (value env e) (on_one column_values (env.inner block))
  truth env (IsNull negated e) = on_one (λ v. unless negated (known (is_null v))) (value env e)
  truth env (Between negated e low high) =
      on_one (unless negated) (on_two and (on_two (compared GreaterOrEquals) (value env e) (value env low))
      (on_two (compared LessOrEquals) (value env e) (value env high)))
  truth env (Like negated e pattern) = on_one (λ v. unless negated (like pattern v)) (value env e)
  truth env (InList negated e members) =
      on_one (unless negated) (on_two (compared_with_any Equals) (value env e) (in_order (map (member env) members)))
  truth env (InQuery negated e block) =
      on_one (unless negated) (on_two (compared_with_any Equals) (value env e) (on_one column_values (env.inner block)))
  truth env (Exists block) = on_one has_row (env.inner block)
  truth env (Not operand) = on_one opposite (truth env operand)
  truth env (And parts) = on_one all_true (truths env parts)
  truth env (Or parts) = on_one any_true (truths env parts)

  pub truths : Environment → Conditions → Meaning (List Truth)
  truths env NoPart = Is []
  truths env (Part part others) = on_two ◌∷◌ (truth env part) (truths env others)
