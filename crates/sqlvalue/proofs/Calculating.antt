-- Arithmetic in 128 bits.
use Rattle.std.proofs.Common.{◌≡◌, refl, ℕ, ◌+◌, ◌-◌, ◌^◌, ◌<◌, ◌≤◌, Some, None, Bool, true, false, cond, arith, lit<, max}
use Rattle.std.specs.Prelude.{ℤ, pos, ◌*ℤ◌, ◌+ℤ◌, FitsSigned, nat_abs, int_div, negsuc, neg_ℤ, ◌==◌}
use Rattle.std.specs.Int.{w128}
use Rattle.std.proofs.lemmas.Bool.Decides.{nat_tests}
use Rattle.std.proofs.Common.{to_z, of_z, zero, suc, ◌/◌}
use Rattle.std.proofs.Math.Nat.{pow-le-pow_right, div-le_self}
use Rattle.std.proofs.lemmas.Int.{fits_signed_from_abs, to_z-of_z, quot_is}
use Rattle.definitions.specs.Value.{Value, Number}
use Rattle.definitions.specs.Arithmetic.{Meaning, Is, is_in_bounds, judged, plus, over, quotient_scale}
use Rattle.sqlvalue.specs.Raises.{if_in_bounds}

pub power_fits : (n : ℕ) → n ≤ 24 → FitsSigned w128 (pos (10 ^ n))
power_fits n h =
    let b : 10 ^ n ≤ 10 ^ 24 = pow-le-pow_right {n = 10} (lit< tt) h in
    let l : 10 ^ 24 < 2 ^ 127 = lit< tt in
    fits_signed_from_abs w128 (pos (10 ^ n)) (omega (arith, b, l))

-- units pass through 128 bits
pub bits_keep : (z : ℤ) → nat_abs z < 10 ^ 38 → to_z w128 (of_z w128 z) ≡ z
bits_keep z h =
    let l : 10 ^ 38 < 2 ^ 127 = lit< tt in
    to_z-of_z w128 z (fits_signed_from_abs w128 z (omega (arith, h, l)))

-- what is told of bounds
some_by : (b : Bool) (z x : ℤ) → cond b (Some z) None ≡ Some x → (b ≡ true) × (z ≡ x)
some_by true z x e = (refl, cc)
some_by false z x e = absurd cc

pub in_bounds_some : (z x : ℤ) → if_in_bounds z ≡ Some x → (is_in_bounds z ≡ true) × (z ≡ x)
in_bounds_some z x e = some_by (is_in_bounds z) z x e

pub sum_is : (m n : ℕ) (a b x y : ℤ) (r : Meaning Value) → if_in_bounds (a *ℤ pos (10 ^ (max m n - m))) ≡ Some x → if_in_bounds (b *ℤ pos (10 ^ (max m n - n))) ≡ Some y → r ≡ judged (x +ℤ y) (max m n)
    → r ≡ plus (Number a m) (Number b n)
sum_is m n a b x y r f g e =
    let p = in_bounds_some (a *ℤ pos (10 ^ (max m n - m))) x f in
    let q = in_bounds_some (b *ℤ pos (10 ^ (max m n - n))) y g in
    rw (p.0, q.0, p.1, q.1) e

-- a quotient is no greater in size than what is divided
abs_neg : (n : ℕ) → nat_abs (neg_ℤ (pos n)) ≡ n
abs_neg zero = refl
abs_neg (suc n) = refl

abs_quotient : (a d : ℤ) → nat_abs (int_div a d) ≤ nat_abs a
abs_quotient (pos a) (pos b) = div-le_self a b
abs_quotient (pos a) (negsuc b) = omega (arith, abs_neg (a / suc b), div-le_self a (suc b))
abs_quotient (negsuc a) (pos b) = omega (arith, abs_neg (suc a / b), div-le_self (suc a) b)
abs_quotient (negsuc a) (negsuc b) = div-le_self (suc a) (suc b)

bits_hold : (z : ℤ) → nat_abs z < 10 ^ 38 → FitsSigned w128 z
bits_hold z h = let l : 10 ^ 38 < 2 ^ 127 = lit< tt in fits_signed_from_abs w128 z (omega (arith, h, l))

not_zero : (b : ℤ) → (of_z w128 b ≡ 0 → ⊥) → (nat_abs b == 0) ≡ false
not_zero (pos zero) h = absurd (h refl)
not_zero (pos (suc n)) h = grind (arith, nat_tests)
not_zero (negsuc n) h = grind (arith, nat_tests)

pub quotient_is : (a b x : ℤ) (m n s : ℕ) → s ≡ quotient_scale m → if_in_bounds (a *ℤ pos (10 ^ ((s + n) - m))) ≡ Some x → nat_abs x < 10 ^ 38 → nat_abs b < 10 ^ 38 → (of_z w128 b ≡ 0 → ⊥)
    → Is (Number (to_z w128 (of_z w128 (int_div (to_z w128 (of_z w128 x)) (to_z w128 (of_z w128 b))))) s) ≡ over (Number a m) (Number b n)
quotient_is a b x m n s e f below h z =
    let p = in_bounds_some (a *ℤ pos (10 ^ ((s + n) - m))) x f in
    let q = quot_is w128 x b (bits_hold x below) (bits_hold b h) (bits_hold (int_div x b) (omega (arith, abs_quotient x b, below))) in
    rw (← e, not_zero b z, p.0, p.1, q) refl
