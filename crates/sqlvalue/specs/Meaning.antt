-- What the values and types of this crate stand for.
use Rattle.std.specs.Prelude.{◌<◌, ◌⊎◌, Bool, true, false}
use Rattle.definitions.specs.Limits.{greatest_precision, greatest_length}
use Rattle.definitions.specs.Value as spec
use Rattle.definitions.specs.Statement as tree
use Rattle.sqlvalue.specs.declared.number.Num.{Num}
use Rattle.sqlvalue.specs.declared.value.Value.{Value}
use Rattle.sqlvalue.specs.declared.value.Value.TheVariants as v
use Rattle.sqlvalue.specs.declared.op.ComparisonOperator.{ComparisonOperator}
use Rattle.sqlvalue.specs.declared.op.ComparisonOperator.TheVariants as o
use Rattle.sqlvalue.specs.declared.sql_type.DeclaredType.{DeclaredType}
use Rattle.sqlvalue.specs.declared.sql_type.DeclaredType.TheVariants as d
use Rattle.sqlvalue.specs.declared.sql_type.TypeFault.{TypeFault}
use Rattle.sqlvalue.specs.declared.sql_type.TypeFault.TheVariants as f
use Rattle.sqlvalue.specs.declared.sql_type.SqlType.{SqlType}
use Rattle.sqlvalue.specs.declared.sql_type.SqlType.TheVariants as t

abbrev pub number_of : Num → spec.Value
number_of n = spec.Number n.units n.scale

abbrev pub value_of : Value → spec.Value
value_of v.Null = spec.Null
value_of (v.Num n) = number_of n
value_of (v.Text text) = spec.Text text.now

abbrev pub op_of : ComparisonOperator → tree.ComparisonOperator
op_of o.Equals = tree.Equals
op_of o.NotEquals = tree.NotEquals
op_of o.LessThan = tree.LessThan
op_of o.GreaterThan = tree.GreaterThan
op_of o.LessOrEquals = tree.LessOrEquals
op_of o.GreaterOrEquals = tree.GreaterOrEquals

-- a type as it is written
abbrev pub declared_of : DeclaredType → spec.SqlType
declared_of d.Smallint = spec.Smallint
declared_of d.Integer = spec.Integer
declared_of (d.Numeric precision scale) = spec.Numeric precision scale
declared_of (d.Char length) = spec.Char length

abbrev pub type_of : SqlType → spec.SqlType
type_of t.Smallint = spec.Smallint
type_of t.Integer = spec.Integer
type_of (t.Numeric precision scale) = spec.Numeric precision scale
type_of (t.Char length) = spec.Char length

-- a parameter of a type is out of range
abbrev pub IsOutside : spec.SqlType → TypeFault → Type 0
IsOutside (spec.Numeric precision scale) f.Precision = (precision < 1) ⊎ (greatest_precision < precision)
IsOutside (spec.Numeric precision scale) f.Scale = precision < scale
IsOutside (spec.Char length) f.Length = (length < 1) ⊎ (greatest_length < length)
IsOutside _ _ = ⊥

-- whether a type's values are texts
abbrev pub is_text_type : spec.SqlType → Bool
is_text_type (spec.Char n) = true
is_text_type _ = false
