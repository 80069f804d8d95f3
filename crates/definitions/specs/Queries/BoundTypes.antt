-- The types of bound values, and which bound expressions are sound: those that binding makes of queries without a
-- fault.
use Rattle.std.specs.Prelude.{ℕ, ◌+◌, max, nat_le, Bool, true, false, ◌&&◌, Option, Some, None, if◌then◌else◌, is_some}
use Rattle.std.specs.List.{list_all}
use Rattle.definitions.specs.Value.{Kind, Numbers, Texts}
use Rattle.definitions.specs.ValueType.{ValueType, NumberType, TextType, type_of, type_kind}
use Rattle.definitions.specs.Arithmetic.{quotient_scale}
use Rattle.definitions.specs.Queries.BoundBlock.{Operator, Plus, Minus, Times, Over, ValueExpr, Column, Parameter}
use Rattle.definitions.specs.Queries.BoundBlock.{Numeral, String, Signed, Chain, AggregateValue, Subquery, Operands}
use Rattle.definitions.specs.Queries.BoundBlock.{NoOperand, Operand, Condition, Conditions, NoPart, Part, Compare}
use Rattle.definitions.specs.Queries.BoundBlock.{Quantified, IsNull, Between, Like, InList, InQuery, Exists, Not, And}
use Rattle.definitions.specs.Queries.BoundBlock.{Or}

-- two operands of arithmetic: numbers both, and no product of a scale over 18 (ISO/IEC 9075:1992, 6.12, syntax rule 1;
-- the limit is own)
abbrev pub arithmetic_type : Operator → ValueType → ValueType → Option ValueType
arithmetic_type Plus (NumberType m) (NumberType n) = Some (NumberType (max m n))
arithmetic_type Minus (NumberType m) (NumberType n) = Some (NumberType (max m n))
arithmetic_type Times (NumberType m) (NumberType n) = if nat_le (m + n) 18 then Some (NumberType (m + n)) else None
arithmetic_type Over (NumberType m) (NumberType n) = Some (NumberType (quotient_scale m))
arithmetic_type _ _ _ = None

abbrev pub type_of_two : Operator → Option ValueType → Option ValueType → Option ValueType
type_of_two operator (Some a) (Some b) = arithmetic_type operator a b
type_of_two operator _ _ = None

abbrev pub signed_type : Option ValueType → Option ValueType
signed_type (Some (NumberType scale)) = Some (NumberType scale)
signed_type _ = None

-- the type of a value; none where kinds are mixed in it
abbrev mutual
  pub value_type : ValueExpr → Option ValueType
  value_type (Column column type) = Some (type_of type)
  value_type (Parameter between column type) = Some (type_of type)
  value_type (Numeral units digits scale) = Some (NumberType scale)
  value_type (String codes) = Some TextType
  value_type (Signed minus operand) = signed_type (value_type operand)
  value_type (Chain first others) = operands_type (value_type first) others
  value_type (AggregateValue number type) = Some type
  value_type (Subquery block type) = Some type

  pub operands_type : Option ValueType → Operands → Option ValueType
  operands_type left NoOperand = left
  operands_type left (Operand operator operand others) =
      operands_type (type_of_two operator left (value_type operand)) others

abbrev pub is_of_kind : Kind → Option ValueType → Bool
is_of_kind Numbers (Some (NumberType scale)) = true
is_of_kind Texts (Some TextType) = true
is_of_kind _ _ = false

-- both have types, and of one kind (8.2, syntax rule 2)
abbrev pub are_comparable : Option ValueType → Option ValueType → Bool
are_comparable (Some a) type = is_of_kind (type_kind a) type
are_comparable None type = false

abbrev pub member_is_comparable : Option ValueType → Option ValueExpr → Bool
member_is_comparable type (Some e) = are_comparable type (value_type e)
member_is_comparable type None = true

-- a condition all of whose values have types, those that are compared of one kind; the types of a subquery's columns by
-- its block's number
abbrev mutual
  pub is_sound : (ℕ → Option ValueType) → Condition → Bool
  is_sound column (Compare op left right) = are_comparable (value_type left) (value_type right)
  is_sound column (Quantified op quantifier e block) = are_comparable (value_type e) (column block)
  is_sound column (IsNull negated e) = is_some (value_type e)
  is_sound column (Between negated e low high) =
      are_comparable (value_type e) (value_type low) && are_comparable (value_type e) (value_type high)
  is_sound column (Like negated e pattern) = is_of_kind Texts (value_type e)
  is_sound column (InList negated e members) =
      is_some (value_type e) && list_all (member_is_comparable (value_type e)) members
  is_sound column (InQuery negated e block) = are_comparable (value_type e) (column block)
  is_sound column (Exists block) = true
  is_sound column (Not operand) = is_sound column operand
  is_sound column (And parts) = are_sound column parts
  is_sound column (Or parts) = are_sound column parts

  pub are_sound : (ℕ → Option ValueType) → Conditions → Bool
  are_sound column NoPart = true
  are_sound column (Part part others) = is_sound column part && are_sound column others
