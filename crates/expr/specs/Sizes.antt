-- Sizes of values that cannot raise.
use Rattle.std.specs.Prelude.{Bool, ◌||◌, min, nat_lt, Option, Some, None, if◌then◌else◌}
use Rattle.definitions.specs.Queries.BoundBlock.{Operator, ValueExpr}
use Rattle.definitions.specs.Queries.CanRaise as c
use Rattle.definitions.specs.Queries.CanRaise.{joined_size, is_division, can_raise, size}
use Rattle.expr.specs.declared.raising.Size.{Size}

abbrev pub size_of : Size → c.Size
size_of s = record { digits = s.digits; scale = s.scale }

-- a number over 255 as 255: whatever raises by such a one raises by the other
abbrev pub capped : c.Size → c.Size
capped s = record { digits = min s.digits 255; scale = min s.scale 255 }

-- a size, unless something raises
abbrev pub unless_raising : Bool → c.Size → Option c.Size
unless_raising raises s = if raises then None else Some (capped s)

abbrev pub safe_size : ValueExpr → Option c.Size
safe_size e = unless_raising (can_raise e) (size e)

abbrev pub safe_joined : Operator → Option c.Size → Option c.Size → Option c.Size
safe_joined operator (Some a) (Some b) =
    unless_raising (is_division operator || nat_lt 38 (joined_size operator a b).digits) (joined_size operator a b)
safe_joined operator _ _ = None
