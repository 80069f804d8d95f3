-- What a condition says of a column where it is `column IN (subquery)` or `column NOT IN (subquery)` (ISO/IEC 9075:1992,
-- 8.4).
use Rattle.std.specs.Prelude.{ℕ, Bool, Option, Some, None}
use Rattle.definitions.specs.Value.{scale_of}
use Rattle.definitions.specs.Plans.Order.{BlockColumn}
use Rattle.definitions.specs.Queries.BoundBlock.{Column, Condition, InQuery}

-- the column, the scale of its numbers, whether it is NOT IN, and the subquery's block
pub record Membership : Type 0 where
  pub column : BlockColumn
  pub scale : ℕ
  pub negated : Bool
  pub block : ℕ

abbrev pub column_membership : Condition → Option Membership
column_membership (InQuery negated (Column column type) block) =
    Some (record { column = column; scale = scale_of type; negated = negated; block = block })
column_membership _ = None
