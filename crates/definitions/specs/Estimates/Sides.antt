-- The values that a condition speaks of, as far as its selectivity depends on them.
use Rattle.std.specs.Prelude.{ℕ, ℤ, pos, neg_ℤ, Bool, if◌then◌else◌, Option, Some, None}
use Rattle.definitions.specs.Value.{scale_of}
use Rattle.definitions.specs.Plans.Order.{BlockColumn}
use Rattle.definitions.specs.Queries.BoundBlock.{ValueExpr, Column, Numeral, Signed}

-- a column of the block, with the scale of its numbers; a known number; or any other value
pub data Side : Type 0 where
  PlainColumn : (column : BlockColumn) (scale : ℕ) → Side
  KnownNumber : (units : ℤ) (scale : ℕ) → Side
  OtherValue : Side

abbrev pub signed_side : Bool → Side → Side
signed_side minus (KnownNumber units scale) = KnownNumber (if minus then neg_ℤ units else units) scale
signed_side minus _ = OtherValue

-- a known number is a numeral, with signs before it
abbrev pub side_of : ValueExpr → Side
side_of (Column column type) = PlainColumn column (scale_of type)
side_of (Numeral units digits scale) = KnownNumber (pos units) scale
side_of (Signed minus operand) = signed_side minus (side_of operand)
side_of _ = OtherValue

-- the column that a value is, if it is one
abbrev pub column_of : ValueExpr → Option BlockColumn
column_of (Column column type) = Some column
column_of _ = None
