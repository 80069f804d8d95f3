-- How many digits a value has at most, and whether its evaluation can raise (own).
use Rattle.std.specs.Prelude.{ℕ, ◌+◌, ◌-◌, max, Bool, true, false, ◌||◌, nat_lt}
use Rattle.definitions.specs.Value.{SqlType, Smallint, Integer, Numeric, Char, scale_of}
use Rattle.definitions.specs.ValueType.{type_scale}
use Rattle.definitions.specs.Arithmetic.{quotient_scale}
use Rattle.definitions.specs.Queries.BoundBlock.{Operator, Plus, Minus, Times, Over, ValueExpr, Column, Parameter}
use Rattle.definitions.specs.Queries.BoundBlock.{Numeral, String, Signed, Chain, AggregateValue, Subquery, Operands}
use Rattle.definitions.specs.Queries.BoundBlock.{NoOperand, Operand}

-- the size of an expression's numbers, known before any row is read: how many digits they have at most, and how many of
-- them stand behind the point
pub record Size : Type 0 where
  pub digits : ℕ
  pub scale : ℕ

abbrev pub type_digits : SqlType → ℕ
type_digits Smallint = 5
type_digits Integer = 10
type_digits (Numeric p s) = p
type_digits (Char n) = 0

abbrev pub type_size : SqlType → Size
type_size type = record { digits = type_digits type; scale = scale_of type }

-- a sum has as many digits before the point as the operand with more of them, and one for the carry
abbrev pub sum_size : Size → Size → Size
sum_size a b =
    record {
      digits = max (a.digits - a.scale) (b.digits - b.scale) + 1 + max a.scale b.scale;
      scale = max a.scale b.scale;
    }

abbrev pub joined_size : Operator → Size → Size → Size
joined_size Plus a b = sum_size a b
joined_size Minus a b = sum_size a b
joined_size Times a b = record { digits = a.digits + b.digits; scale = a.scale + b.scale }
joined_size Over a b = record { digits = 38; scale = quotient_scale a.scale }

-- set functions, subqueries and quotients count as 38 digits
abbrev mutual
  pub size : ValueExpr → Size
  size (Column column type) = type_size type
  size (Parameter between column type) = type_size type
  size (Numeral units digits scale) = record { digits = digits; scale = scale }
  size (String codes) = record { digits = 0; scale = 0 }
  size (Signed minus operand) = size operand
  size (Chain first others) = chain_size (size first) others
  size (AggregateValue number type) = record { digits = 38; scale = type_scale type }
  size (Subquery block type) = record { digits = 38; scale = type_scale type }

  pub chain_size : Size → Operands → Size
  chain_size left NoOperand = left
  chain_size left (Operand operator operand others) = chain_size (joined_size operator left (size operand)) others

abbrev pub is_division : Operator → Bool
is_division Over = true
is_division _ = false

-- an expression can raise where it holds a division, a subquery, a set function, or a part of more than 38 digits
abbrev mutual
  pub can_raise : ValueExpr → Bool
  can_raise (Signed minus operand) = can_raise operand
  can_raise (Chain first others) = can_raise first || chain_can_raise (size first) others
  can_raise (AggregateValue number type) = true
  can_raise (Subquery block type) = true
  can_raise _ = false

  pub chain_can_raise : Size → Operands → Bool
  chain_can_raise left NoOperand = false
  chain_can_raise left (Operand operator operand others) =
      is_division operator || can_raise operand || nat_lt 38 (joined_size operator left (size operand)).digits
      || chain_can_raise (joined_size operator left (size operand)) others
