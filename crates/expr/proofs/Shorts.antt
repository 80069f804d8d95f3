-- Numbers of 64 bits: what is calculated of them, and how they compare.
use Rattle.std.proofs.Common.{◌≡◌, ◌∙◌, refl, sym, ap, ap₂, subst, ℕ, zero, suc, ◌+◌, ◌-◌, ◌*◌, ◌^◌, ◌<◌, ◌≤◌, max, true, Option, arith, lit<, inl, inr}
use Rattle.std.specs.Prelude.{ℤ, pos, negsuc, neg_ℤ, ◌+ℤ◌, ◌-ℤ◌, ◌*ℤ◌, nat_abs, FitsSigned, IfSome, ◌⊎◌}
use Rattle.std.specs.Int.{w64}
use Rattle.std.specs.Ordering.{int_cmp}
use Rattle.std.proofs.lemmas.Int.{ints}
use Rattle.std.proofs.lemmas.Nat.{pow-add}
use Rattle.std.proofs.lemmas.Bool.{cases_lt}
use Rattle.std.proofs.lemmas.Bool.Decides.{nat_tests}
use Rattle.std.proofs.Math.IntN.{neg_ℤ-neg_ℤ}
use Rattle.std.proofs.Math.Nat.{mul_assoc}
use Rattle.definitions.specs.Value.{Value, Number, number_cmp}
use Rattle.definitions.specs.Arithmetic.{Meaning, Is, is_in_bounds, judged, plus, minus}
use Rattle.definitions.proofs.Ranking.{scaled, power_is_positive}
use Rattle.expr.specs.Shorts.{short_of}
use Rattle.expr.specs.declared.short.Short.{Short}

-- they are of far less than 38 digits
pub size_fits : (z : ℤ) → FitsSigned w64 z → nat_abs z ≤ 2 ^ 63
size_fits z h = omega (arith, ints, h)

pub in_bounds : (z : ℤ) → nat_abs z ≤ 2 ^ 63 → is_in_bounds z ≡ true
in_bounds z h =
    let l : 2 ^ 63 < 10 ^ 38 = lit< tt in
    grind (arith, nat_tests, h, l)

pub judged_short : (z : ℤ) (scale : ℕ) → FitsSigned w64 z → judged z scale ≡ Is (Number z scale)
judged_short z scale h = rw (in_bounds z (size_fits z h)) refl

-- ---- sums

pub one_of : (z : ℤ) → z *ℤ pos 1 ≡ z
one_of (pos n) = ap pos (omega arith)
one_of (negsuc n) = let e : suc n * 1 ≡ suc n = omega arith in ap (λ k. neg_ℤ (pos k)) e

pub same_size : (z : ℤ) → nat_abs (neg_ℤ z) ≡ nat_abs z
same_size (pos zero) = refl
same_size (pos (suc n)) = refl
same_size (negsuc n) = refl

neg_of_product : (n k : ℕ) → neg_ℤ (pos n) *ℤ pos k ≡ neg_ℤ (pos (n * k))
neg_of_product zero k = let e : 0 * k ≡ 0 = omega arith in rw e refl
neg_of_product (suc n) k = refl

-- the sign of a product is that of its first factor
pub neg_by : (z : ℤ) (k : ℕ) → neg_ℤ z *ℤ pos k ≡ neg_ℤ (z *ℤ pos k)
neg_by (pos n) k = neg_of_product n k
neg_by (negsuc n) k = sym (neg_ℤ-neg_ℤ (pos (suc n * k)))

-- of one scale nothing has to be brought to another
sum_at : (a b : ℤ) (m : ℕ) → nat_abs a ≤ 2 ^ 63 → nat_abs b ≤ 2 ^ 63 → plus (Number a m) (Number b m) ≡ judged (a +ℤ b) m
sum_at a b m f g =
    let greater : max m m ≡ m = omega arith in
    let none : m - m ≡ 0 = omega arith in
    rw (greater, none, one_of a, one_of b, in_bounds a f, in_bounds b g) refl

pub plus_short : (a b : ℤ) (m : ℕ) → FitsSigned w64 a → FitsSigned w64 b → plus (Number a m) (Number b m) ≡ judged (a +ℤ b) m
plus_short a b m f g = sum_at a b m (size_fits a f) (size_fits b g)

pub minus_short : (a b : ℤ) (m : ℕ) → FitsSigned w64 a → FitsSigned w64 b → minus (Number a m) (Number b m) ≡ judged (a -ℤ b) m
minus_short a b m f g = sum_at a (neg_ℤ b) m (size_fits a f) (rw (same_size b) (size_fits b g))

-- ---- order

times_times : (a : ℤ) (j k : ℕ) → a *ℤ pos (j * k) ≡ (a *ℤ pos j) *ℤ pos k
times_times (pos m) j k = ap pos (sym (mul_assoc m j k))
times_times (negsuc m) j k = ap (λ x. neg_ℤ (pos x)) (sym (mul_assoc (suc m) j k)) ∙ sym (neg_of_product (suc m * j) k)

-- a greater power in two steps
two_steps : (a : ℤ) (m n k : ℕ) → n ≡ m + k → a *ℤ pos (10 ^ n) ≡ (a *ℤ pos (10 ^ m)) *ℤ pos (10 ^ k)
two_steps a m n k e = ap (λ x. a *ℤ pos (10 ^ x)) e ∙ ap (λ x. a *ℤ pos x) (pow-add 10 m k) ∙ times_times a (10 ^ m) (10 ^ k)

-- brought to the greater of their scales they compare as they are
at_common : (a b : ℤ) (m n k : ℕ) → n ≡ n - m + k → m ≡ m - n + k → int_cmp (a *ℤ pos (10 ^ (n - m))) (b *ℤ pos (10 ^ (m - n))) ≡ number_cmp a m b n
at_common a b m n k e f =
    scaled (a *ℤ pos (10 ^ (n - m))) (b *ℤ pos (10 ^ (m - n))) (10 ^ k) (power_is_positive k)
    ∙ sym (ap₂ int_cmp (two_steps a (n - m) n k e) (two_steps b (m - n) m k f))

by_scales : (a b : ℤ) (m n : ℕ) → (m < n) ⊎ (n ≤ m) → int_cmp (a *ℤ pos (10 ^ (n - m))) (b *ℤ pos (10 ^ (m - n))) ≡ number_cmp a m b n
by_scales a b m n (inl h) = at_common a b m n m (omega (arith, h)) (omega (arith, h))
by_scales a b m n (inr h) = at_common a b m n n (omega (arith, h)) (omega (arith, h))

pub common_scale : (a b : ℤ) (m n : ℕ) → int_cmp (a *ℤ pos (10 ^ (n - m))) (b *ℤ pos (10 ^ (m - n))) ≡ number_cmp a m b n
common_scale a b m n = by_scales a b m n (cases_lt m n)

-- ---- what may be there

pub replaced : (o : Option Short) (m n : Meaning Value) → m ≡ n → IfSome o (λ s. n ≡ Is (short_of s)) → IfSome o (λ s. m ≡ Is (short_of s))
replaced o m n e h = subst (λ x. IfSome o (λ s. x ≡ Is (short_of s))) (sym e) h
