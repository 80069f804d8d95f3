-- Comparison of numbers by their signs, their whole parts and what is left, and of texts place by place.
use Rattle.std.proofs.Common.{◌≡◌, ◌∙◌, refl, ap, ap₂, ℕ, zero, suc, ◌+◌, ◌*◌, ◌/◌, ◌%◌, ◌^◌, ◌<◌, ◌≤◌, List, [], ◌∷◌, true, false, length, get_or, drop, arith, inl, inr, lit<}
use Rattle.std.specs.Prelude.{◌⊎◌, ℤ, pos, negsuc, neg_ℤ, ◌*ℤ◌, int_lt}
use Rattle.std.specs.Ordering.{nat_cmp, int_cmp, ordering_then}
use Rattle.std.specs.declared.cmp.Ordering.TheVariants.{Less, Greater}
use Rattle.std.proofs.Math.Nat.{mul-le-mul_left, div-add-mod, pow-le-pow_right}
use Rattle.std.proofs.lemmas.Bool.{cases_lt}
use Rattle.std.proofs.lemmas.Bool.Decides.{nat_tests}
use Rattle.definitions.specs.Value.{text_cmp}

-- a power of ten
pub power_is_bounded : (n : ℕ) → n ≤ 18 → 10 ^ n ≤ 10 ^ 18
power_is_bounded n h = pow-le-pow_right {n = 10} (lit< tt) h

-- a number below zero is less than one that is not, at any scales
below_zero : (i j : ℕ) → 0 < j → (int_cmp (neg_ℤ (pos j)) (pos i) ≡ Less) × (int_cmp (pos i) (neg_ℤ (pos j)) ≡ Greater)
below_zero i zero h = absurd (omega (arith, h))
below_zero i (suc j) h = (refl, refl)

times_positive : (n k : ℕ) → 0 < k → 0 < suc n * k
times_positive n k h = grind (arith, h)

pub by_signs : (a b : ℤ) (p q : ℕ) → 0 < p → int_lt a (pos 0) ≡ true → int_lt b (pos 0) ≡ false → (int_cmp (a *ℤ pos p) (b *ℤ pos q) ≡ Less) × (int_cmp (b *ℤ pos q) (a *ℤ pos p) ≡ Greater)
by_signs (pos m) b p q h g l = absurd (grind (arith, nat_tests, g))
by_signs (negsuc m) (pos n) p q h g l = below_zero (n * q) (suc m * p) (times_positive m p h)
by_signs (negsuc m) (negsuc n) p q h g l = absurd cc

-- numbers in a mixed base k compare by their first parts, and then by their second ones
mixed_less : (k x y r s : ℕ) → r < k → x < y → k * x + r < k * y + s
mixed_less k x y r s h l = let m : k * (x + 1) ≤ k * y = mul-le-mul_left k (omega (arith, l)) in omega (arith, m, h)

by_first : (k x y r s : ℕ) → r < k → s < k → (x < y) ⊎ (y ≤ x) → (y < x) ⊎ (x ≤ y) → nat_cmp (k * x + r) (k * y + s) ≡ ordering_then (nat_cmp x y) (nat_cmp r s)
by_first k x y r s h l (inl a) b = let m = mixed_less k x y r s h a in grind (arith, nat_tests, a, m)
by_first k x y r s h l (inr a) (inl b) = let m = mixed_less k y x s r l b in grind (arith, nat_tests, b, m)
by_first k x y r s h l (inr a) (inr b) =
    let e : x ≡ y = omega (arith, a, b) in
    rw e (grind (arith, nat_tests))

-- what is left of a number, brought to a common base
product_less : (r p q : ℕ) → r < p → 0 < q → r * q < p * q
product_less r p q h g = let m : q * (r + 1) ≤ q * p = mul-le-mul_left q (omega (arith, h)) in omega (arith, m, g)

base : (a p q : ℕ) → a * q ≡ p * q * (a / p) + a % p * q
base a p q = let e : p * (a / p) + a % p ≡ a = div-add-mod a p in
    let f : (p * (a / p) + a % p) * q ≡ a * q = ap (λ x. x * q) e in
    omega (arith, f)

mod_less : (a p : ℕ) → 0 < p → a % p < p
mod_less a p h = omega (arith, h)

pub by_whole_parts : (a b p q : ℕ) → 0 < p → 0 < q → nat_cmp (a * q) (b * p) ≡ ordering_then (nat_cmp (a / p) (b / q)) (nat_cmp (a % p * q) (b % q * p))
by_whole_parts a b p q h l =
    let r : a % p * q < p * q = product_less (a % p) p q (mod_less a p h) l in
    let s : b % q * p < q * p = product_less (b % q) q p (mod_less b q l) h in
    let s' : b % q * p < p * q = omega (arith, s) in
    let e : a * q ≡ p * q * (a / p) + a % p * q = base a p q in
    let f : b * p ≡ q * p * (b / q) + b % q * p = base b q p in
    let f' : b * p ≡ p * q * (b / q) + b % q * p = omega (arith, f) in
    ap₂ nat_cmp e f' ∙ by_first (p * q) (a / p) (b / q) (a % p * q) (b % q * p) r s' (cases_lt _ _) (cases_lt _ _)

-- a text goes on as if it had spaces
pub by_heads : (xs ys : List ℕ) → (0 < length xs) ⊎ (0 < length ys) → text_cmp xs ys ≡ ordering_then (nat_cmp (get_or xs 0 32) (get_or ys 0 32)) (text_cmp (drop 1 xs) (drop 1 ys))
by_heads [] [] (inl h) = absurd (omega (arith, h))
by_heads [] [] (inr h) = absurd (omega (arith, h))
by_heads [] (y ∷ ys) h = refl
by_heads (x ∷ xs) [] h = refl
by_heads (x ∷ xs) (y ∷ ys) h = refl
