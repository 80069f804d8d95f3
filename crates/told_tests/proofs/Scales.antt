-- Numbers of two scales, brought to the greater one.
use Rattle.std.proofs.Common.{◌≡◌, ◌∙◌, refl, sym, ap, ap₂, ℕ, zero, suc, ◌+◌, ◌-◌, ◌*◌, ◌^◌, ◌<◌, ◌≤◌, arith, inl, inr}
use Rattle.std.specs.Prelude.{ℤ, pos, negsuc, neg_ℤ, ◌*ℤ◌, ◌⊎◌}
use Rattle.std.specs.Ordering.{int_cmp}
use Rattle.std.proofs.lemmas.Nat.{pow-add}
use Rattle.std.proofs.lemmas.Bool.{cases_lt}
use Rattle.std.proofs.Math.Nat.{mul_assoc}
use Rattle.definitions.specs.Value.{number_cmp}
use Rattle.definitions.proofs.Ranking.{scaled, power_is_positive}

neg_of_product : (n k : ℕ) → neg_ℤ (pos n) *ℤ pos k ≡ neg_ℤ (pos (n * k))
neg_of_product zero k = let e : 0 * k ≡ 0 = omega arith in rw e refl
neg_of_product (suc n) k = refl

times_times : (a : ℤ) (j k : ℕ) → a *ℤ pos (j * k) ≡ (a *ℤ pos j) *ℤ pos k
times_times (pos m) j k = ap pos (sym (mul_assoc m j k))
times_times (negsuc m) j k = ap (λ x. neg_ℤ (pos x)) (sym (mul_assoc (suc m) j k)) ∙ sym (neg_of_product (suc m * j) k)

-- a greater power in two steps
two_steps : (a : ℤ) (m n k : ℕ) → n ≡ m + k → a *ℤ pos (10 ^ n) ≡ (a *ℤ pos (10 ^ m)) *ℤ pos (10 ^ k)
two_steps a m n k e = ap (λ x. a *ℤ pos (10 ^ x)) e ∙ ap (λ x. a *ℤ pos x) (pow-add 10 m k) ∙ times_times a (10 ^ m) (10 ^ k)

-- brought to the greater of their scales they compare as they are
at_common : (a b : ℤ) (m n k : ℕ) → n ≡ n - m + k → m ≡ m - n + k → int_cmp (a *ℤ pos (10 ^ (n - m))) (b *ℤ pos (10 ^ (m - n))) ≡ number_cmp a m b n
at_common a b m n k e f =
    scaled (a *ℤ pos (10 ^ (n - m))) (b *ℤ pos (10 ^ (m - n))) (10 ^ k) (power_is_positive k)
    ∙ sym (ap₂ int_cmp (two_steps a (n - m) n k e) (two_steps b (m - n) m k f))

by_scales : (a b : ℤ) (m n : ℕ) → (m < n) ⊎ (n ≤ m) → int_cmp (a *ℤ pos (10 ^ (n - m))) (b *ℤ pos (10 ^ (m - n))) ≡ number_cmp a m b n
by_scales a b m n (inl h) = at_common a b m n m (omega (arith, h)) (omega (arith, h))
by_scales a b m n (inr h) = at_common a b m n n (omega (arith, h)) (omega (arith, h))

pub common_scale : (a b : ℤ) (m n : ℕ) → int_cmp (a *ℤ pos (10 ^ (n - m))) (b *ℤ pos (10 ^ (m - n))) ≡ number_cmp a m b n
common_scale a b m n = by_scales a b m n (cases_lt m n)
