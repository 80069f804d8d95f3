-- What an evaluation means, a result or exceptions; and exact arithmetic.
use Rattle.std.specs.Prelude.{ℕ, ℤ, pos, neg_ℤ, ◌+ℤ◌, ◌*ℤ◌, ◌+◌, ◌-◌, ◌^◌, ◌==◌, max, Bool, ◌&&◌, nat_lt, nat_abs}
use Rattle.std.specs.Prelude.{int_div, List, [], if◌then◌else◌}
use Rattle.definitions.specs.Limits.{most_digits}
use Rattle.definitions.specs.Value.{Value, Null, Number}

-- the exceptions that a query can raise (ISO/IEC 9075:1992, 22.1)
pub data Raise : Type 0 where
  OutOfRange DivisionByZero Cardinality : Raise

-- a result; or exceptions, one at least, of which any one may be told: how often one is listed, and where, says nothing
-- (the standard leaves the order of evaluation open, 3.3.4.4; how far it is open here is own)
pub data Meaning (X : Type 0) : Type 0 where
  Is : (result : X) → Meaning X
  Raises : (first : Raise) (others : List Raise) → Meaning X

-- one exception and no other
abbrev pub raised : {X : Type 0} → Raise → Meaning X
raised r = Raises r []

-- of at most 38 digits (own)
abbrev pub is_in_bounds : ℤ → Bool
is_in_bounds units = nat_lt (nat_abs units) (10 ^ most_digits)

-- a number, if it is in bounds (6.12)
abbrev pub judged : ℤ → ℕ → Meaning Value
judged units scale = if is_in_bounds units then Is (Number units scale) else raised OutOfRange

-- units of a scale as units of a greater one
abbrev pub at_scale : ℕ → ℤ → ℕ → ℤ
at_scale greater units scale = units *ℤ pos (10 ^ (greater - scale))

-- a null operand gives null, here and in all that follows (6.12, general rule 1)
abbrev pub negative : Value → Value
negative (Number units scale) = Number (neg_ℤ units) scale
negative v = v

-- the scale of a sum is the greater one, to which both operands must come in bounds (6.12, syntax rule 1; the bounds
-- are own)
abbrev pub plus : Value → Value → Meaning Value
plus (Number a m) (Number b n) =
    if is_in_bounds (at_scale (max m n) a m) && is_in_bounds (at_scale (max m n) b n)
    then judged (at_scale (max m n) a m +ℤ at_scale (max m n) b n) (max m n)
    else raised OutOfRange
plus _ _ = Is Null

abbrev pub minus : Value → Value → Meaning Value
minus a b = plus a (negative b)

-- the scale of a product is the sum of the scales (6.12, syntax rule 1)
abbrev pub times : Value → Value → Meaning Value
times (Number a m) (Number b n) = judged (a *ℤ b) (m + n)
times _ _ = Is Null

-- a quotient keeps the scale of what is divided, but has 6 digits behind the point at least (6.12, syntax rule 1,
-- leaves it open; own)
abbrev pub quotient_scale : ℕ → ℕ
quotient_scale scale = max scale 6

-- a zero divisor is told first; the quotient is cut towards zero (6.12; the cut and the bound are own)
abbrev pub quotient : ℤ → ℤ → ℕ → Meaning Value
quotient numerator divisor scale =
    if nat_abs divisor == 0 then raised DivisionByZero
    else if is_in_bounds numerator then Is (Number (int_div numerator divisor) scale)
    else raised OutOfRange

abbrev pub over : Value → Value → Meaning Value
over (Number a m) (Number b n) = quotient (a *ℤ pos (10 ^ ((quotient_scale m + n) - m))) b (quotient_scale m)
over _ _ = Is Null
