-- A number drawn into a range, whatever its product with a power of ten leaves out.
use Rattle.std.proofs.Common.{to_z, of_z, ◌≡◌, ◌∙◌, refl, sym, ap, ap₂, ℕ, zero, suc, ◌-◌, ◌*◌, ◌/◌, ◌^◌, ◌<◌, ◌≤◌, min, arith, lit≤, lit<, inl, inr, Bool, true, false, cond}
use Rattle.std.specs.Prelude.{◌⊎◌, ℤ, pos, negsuc, neg_ℤ, ◌*ℤ◌, ◌≤ℤ◌, ◌<ℤ◌, nat_abs, int_div, FitsSigned}
use Rattle.std.specs.Int.{w128, int_min, int_max, saturate_signed, saturate_to_bits}
use Rattle.std.specs.Ordering.{int_cmp, is_lt, is_gt, MatchOrdering}
use Rattle.std.specs.declared.cmp.Ordering.{Ordering}
use Rattle.std.specs.declared.cmp.Ordering.TheVariants as o
use Rattle.std.specs.Cmp.{int_ranks}
use Rattle.std.proofs.Math.Nat.{mul-le-mul_left, mul-le-mul_right, div-le_of_le-mul, mul_comm, pow-le-pow_right}
use Rattle.std.proofs.lemmas.Nat.{le-div}
use Rattle.std.proofs.lemmas.Int.{ints, clamps, to_z-of_z, quot_fits, fits_signed_from_abs}
use Rattle.std.proofs.lemmas.Bool.{cases_lt}
use Rattle.definitions.specs.Table.{KeyRange}
use Rattle.definitions.specs.Estimates.KeyRanges.{drawn}
use Rattle.definitions.proofs.Ranking.{power_is_positive}

-- ---- a quotient that is cut towards zero keeps to whole numbers

quotient_below : (x t : ℤ) (d : ℕ) → 0 < d → x ≤ℤ (t *ℤ pos d) → int_div x (pos d) ≤ℤ t
quotient_below (pos n) (pos a) d h l = let m : n / d ≤ a = div-le_of_le-mul d {m = n} {n = a} (let c = mul_comm a d in omega (arith, ints, l, c)) in omega (arith, ints, m)
quotient_below (pos n) (negsuc a) d h l = let m : 1 * d ≤ suc a * d = mul-le-mul_right d (omega arith) in absurd (omega (arith, ints, m, l, h))
quotient_below (negsuc n) (pos a) d h l = omega (arith, ints)
quotient_below (negsuc n) (negsuc a) d h l = let m : suc a ≤ suc n / d = le-div (suc a) (suc n) d h (omega (arith, ints, l)) in omega (arith, ints, m)

quotient_above : (x t : ℤ) (d : ℕ) → 0 < d → (t *ℤ pos d) ≤ℤ x → t ≤ℤ int_div x (pos d)
quotient_above (pos n) (pos a) d h l = let m : a ≤ n / d = le-div a n d h (omega (arith, ints, l)) in omega (arith, ints, m)
quotient_above (pos n) (negsuc a) d h l = omega (arith, ints)
quotient_above (negsuc n) (pos a) d h l = absurd (omega (arith, ints, l))
quotient_above (negsuc n) (negsuc a) d h l = let m : suc n / d ≤ suc a = div-le_of_le-mul d {m = suc n} {n = suc a} (let c = mul_comm (suc a) d in omega (arith, ints, l, c)) in omega (arith, ints, m)

-- ---- so what it is by comparisons, it is between the bounds

record Compared (x y : ℤ) (less greater : Bool) : Type 0 where
  pub below : less ≡ true → x ≤ℤ y
  pub not_below : less ≡ false → y ≤ℤ x
  pub above : greater ≡ true → y ≤ℤ x
  pub not_above : greater ≡ false → x ≤ℤ y

by_order : (x y : ℤ) (r : Ordering) → MatchOrdering r (x <ℤ y) (x ≡ y) (y <ℤ x) → Compared x y (is_lt r) (is_gt r)
by_order x y o.Less h = record { below = λ e. omega (arith, ints, h); not_below = λ e. absurd cc; above = λ e. absurd cc; not_above = λ e. omega (arith, ints, h) }
by_order x y o.Equal h = record { below = λ e. absurd cc; not_below = λ e. omega (arith, ints, h); above = λ e. absurd cc; not_above = λ e. omega (arith, ints, h) }
by_order x y o.Greater h = record { below = λ e. absurd cc; not_below = λ e. omega (arith, ints, h); above = λ e. omega (arith, ints, h); not_above = λ e. absurd cc }

by_tests : (less greater : Bool) (q low high : ℤ) → low ≤ℤ high → (less ≡ true → q ≤ℤ low) → (less ≡ false → low ≤ℤ q) → (greater ≡ true → high ≤ℤ q) → (greater ≡ false → q ≤ℤ high)
    → int_max low (int_min q high) ≡ cond less low (cond greater high q)
by_tests true greater q low high rising a b c d = let h = a refl in omega (arith, ints, clamps, h, rising)
by_tests false true q low high rising a b c d = let h = b refl in let l = c refl in omega (arith, ints, clamps, h, l, rising)
by_tests false false q low high rising a b c d = let h = b refl in let l = d refl in omega (arith, ints, clamps, h, l, rising)

clamped : (x low high : ℤ) (d : ℕ) → 0 < d → low ≤ℤ high → int_max low (int_min (int_div x (pos d)) high)
    ≡ cond (is_lt (int_cmp x (low *ℤ pos d))) low (cond (is_gt (int_cmp x (high *ℤ pos d))) high (int_div x (pos d)))
clamped x low high d h rising =
    let l = by_order x (low *ℤ pos d) _ (int_ranks x (low *ℤ pos d)) in
    let g = by_order x (high *ℤ pos d) _ (int_ranks x (high *ℤ pos d)) in
    by_tests _ _ (int_div x (pos d)) low high rising
    (λ e. quotient_below x low d h (l.below e)) (λ e. quotient_above x low d h (l.not_below e))
    (λ e. quotient_above x high d h (g.above e)) (λ e. quotient_below x high d h (g.not_above e))

-- ---- far out both bounds are passed

abs_bounds : (z : ℤ) (n : ℕ) → nat_abs z < n → (neg_ℤ (pos n) ≤ℤ z) × (z ≤ℤ pos n)
abs_bounds (pos m) n h = (omega (arith, ints, h), omega (arith, ints, h))
abs_bounds (negsuc m) n h = (omega (arith, ints, h), omega (arith, ints, h))

far_above : (x low high : ℤ) (d : ℕ) → 0 < d → d ≤ 10 ^ 18 → low ≤ℤ high → nat_abs high < 10 ^ 18 → pos (10 ^ 36) ≤ℤ x → int_max low (int_min (int_div x (pos d)) high) ≡ high
far_above x low high d h small rising bound far =
    let m : 10 ^ 18 * d ≤ 10 ^ 18 * 10 ^ 18 = mul-le-mul_left (10 ^ 18) small in
    let q : pos (10 ^ 18) ≤ℤ int_div x (pos d) = quotient_above x (pos (10 ^ 18)) d h (omega (arith, ints, m, far)) in
    let b : high ≤ℤ pos (10 ^ 18) = (abs_bounds high (10 ^ 18) bound).1 in
    omega (arith, ints, clamps, q, b, rising)

far_below : (x low high : ℤ) (d : ℕ) → 0 < d → d ≤ 10 ^ 18 → low ≤ℤ high → nat_abs low < 10 ^ 18 → x ≤ℤ neg_ℤ (pos (10 ^ 36)) → int_max low (int_min (int_div x (pos d)) high) ≡ low
far_below x low high d h small rising bound far =
    let m : 10 ^ 18 * d ≤ 10 ^ 18 * 10 ^ 18 = mul-le-mul_left (10 ^ 18) small in
    let q : int_div x (pos d) ≤ℤ neg_ℤ (pos (10 ^ 18)) = quotient_below x (neg_ℤ (pos (10 ^ 18))) d h (omega (arith, ints, m, far)) in
    let b : neg_ℤ (pos (10 ^ 18)) ≤ℤ low = (abs_bounds low (10 ^ 18) bound).0 in
    omega (arith, ints, clamps, q, b, rising)

-- ---- a product that stops at the ends of 128 bits

data Near (x y : ℤ) : Type 0 where
  same : x ≡ y → Near x y
  above : pos (10 ^ 36) ≤ℤ x → pos (10 ^ 36) ≤ℤ y → Near x y
  below : x ≤ℤ neg_ℤ (pos (10 ^ 36)) → y ≤ℤ neg_ℤ (pos (10 ^ 36)) → Near x y

data Capped (whole cut most : ℕ) : Type 0 where
  equal : cut ≡ whole → whole ≤ most → Capped whole cut most
  passed : most ≤ whole → most ≤ cut → Capped whole cut most

capped_by : (n t cut most : ℕ) → cut ≡ min t most → (most < t) ⊎ (t ≤ most) → (most < n * t) ⊎ (n * t ≤ most) → Capped (n * t) (n * cut) most
capped_by zero t cut most e a b = equal (omega arith) (omega arith)
capped_by (suc n) t cut most e (inl a) b =
    let m : 1 * cut ≤ suc n * cut = mul-le-mul_right cut (omega arith) in
    let l : 1 * t ≤ suc n * t = mul-le-mul_right t (omega arith) in
    passed (omega (arith, l, a)) (omega (arith, m, e, a))
capped_by (suc n) t cut most e (inr a) (inl b) = let c : cut ≡ t = omega (arith, e, a) in rw c (passed (omega (arith, b)) (omega (arith, b)))
capped_by (suc n) t cut most e (inr a) (inr b) = let c : cut ≡ t = omega (arith, e, a) in rw c (equal refl b)

capped : (n t most : ℕ) → Capped (n * t) (n * min t most) most
capped n t most = capped_by n t (min t most) most refl (cases_lt most t) (cases_lt most (n * t))

near_above : (whole cut most : ℕ) → 10 ^ 36 ≤ most → Capped whole cut most → Near (pos whole) (pos (min cut most))
near_above whole cut most h (equal e l) = same (let m : whole ≡ min cut most = omega (arith, e, l) in ap pos m)
near_above whole cut most h (passed a b) = above (omega (arith, ints, h, a)) (omega (arith, ints, h, b))

same_below : (n : ℕ) → n ≤ 2 ^ 127 - 1 → neg_ℤ (pos n) ≡ saturate_to_bits 127 (neg_ℤ (pos n))
same_below zero h = refl
same_below (suc n) h = let m : n ≡ min n (2 ^ 127 - 1) = omega (arith, h) in ap negsuc m

cut_below : (n : ℕ) → 2 ^ 127 - 1 ≤ n → saturate_to_bits 127 (neg_ℤ (pos n)) ≤ℤ neg_ℤ (pos (10 ^ 36))
cut_below zero h = absurd (omega (arith, h))
cut_below (suc n) h = omega (arith, ints, h)

near_below : (whole cut : ℕ) → Capped whole cut (2 ^ 127 - 1) → Near (neg_ℤ (pos whole)) (saturate_to_bits 127 (neg_ℤ (pos cut)))
near_below whole cut (equal e l) = rw e (same (same_below whole l))
near_below whole cut (passed a b) = below (omega (arith, ints, a)) (cut_below cut b)

near : (u : ℤ) (t : ℕ) → Near (u *ℤ pos t) (saturate_signed w128 (u *ℤ saturate_signed w128 (pos t)))
near (pos n) t = near_above (n * t) (n * min t (2 ^ 127 - 1)) (2 ^ 127 - 1) (lit≤ tt) (capped n t (2 ^ 127 - 1))
near (negsuc n) t = near_below (suc n * t) (suc n * min t (2 ^ 127 - 1)) (capped (suc n) t (2 ^ 127 - 1))

-- ---- altogether

by_near : (range : KeyRange) (key_scale scale : ℕ) (units product : ℤ) → scale ≤ 18 → range.low ≤ℤ range.high → nat_abs range.low < 10 ^ 18 → nat_abs range.high < 10 ^ 18
    → Near (units *ℤ pos (10 ^ key_scale)) product → int_max range.low (int_min (int_div product (pos (10 ^ scale))) range.high) ≡ drawn range key_scale units scale
by_near range key_scale scale units product small rising low high (same e) = rw (← e) (clamped (units *ℤ pos (10 ^ key_scale)) range.low range.high (10 ^ scale) (power_is_positive scale) rising)
by_near range key_scale scale units product small rising low high (above a b) =
    let whole = units *ℤ pos (10 ^ key_scale) in
    let d = 10 ^ scale in
    let h = power_is_positive scale in
    let l : d ≤ 10 ^ 18 = pow-le-pow_right {n = 10} (lit< tt) small in
    far_above product range.low range.high d h l rising high b ∙ sym (far_above whole range.low range.high d h l rising high a) ∙ clamped whole range.low range.high d h rising
by_near range key_scale scale units product small rising low high (below a b) =
    let whole = units *ℤ pos (10 ^ key_scale) in
    let d = 10 ^ scale in
    let h = power_is_positive scale in
    let l : d ≤ 10 ^ 18 = pow-le-pow_right {n = 10} (lit< tt) small in
    far_below product range.low range.high d h l rising low b ∙ sym (far_below whole range.low range.high d h l rising low a) ∙ clamped whole range.low range.high d h rising

pub is_drawn : (range : KeyRange) (key_scale scale : ℕ) (units : ℤ) → scale ≤ 18 → range.low <ℤ range.high → nat_abs range.low < 10 ^ 18 → nat_abs range.high < 10 ^ 18
    → int_max range.low (int_min (int_div (saturate_signed w128 (units *ℤ saturate_signed w128 (pos (10 ^ key_scale)))) (pos (10 ^ scale))) range.high) ≡ drawn range key_scale units scale
is_drawn range key_scale scale units small rising low high = by_near range key_scale scale units _ small (omega (arith, ints, rising)) low high (near units (10 ^ key_scale))

-- ---- in 128 bits

pub saturated_fits : (z : ℤ) → FitsSigned w128 (saturate_signed w128 z)
saturated_fits (pos n) = record { sfits = omega arith }
saturated_fits (negsuc n) = record { sfits = omega arith }

power_fits : (n : ℕ) → n ≤ 18 → FitsSigned w128 (pos (10 ^ n))
power_fits n h =
    let b : 10 ^ n ≤ 10 ^ 18 = pow-le-pow_right {n = 10} (lit< tt) h in
    fits_signed_from_abs w128 (pos (10 ^ n)) (omega (arith, b))

pub quotient_fits : (units power : ℤ) (scale : ℕ) → scale ≤ 18 → power ≡ pos (10 ^ scale) → FitsSigned w128 units
    → (0 < of_z w128 power) × FitsSigned w128 (int_div (to_z w128 (of_z w128 units)) (to_z w128 (of_z w128 power)))
quotient_fits units power scale small e fits =
    let p = power_is_positive scale in
    let q = quot_fits w128 units (pos (10 ^ scale)) fits (omega (arith, ints, p)) in
    rw (e, to_z-of_z w128 units fits, to_z-of_z w128 (pos (10 ^ scale)) (power_fits scale small)) (p, q)

keeps : (z : ℤ) → nat_abs z < 10 ^ 38 → to_z w128 (of_z w128 z) ≡ z
keeps z h = let l : 10 ^ 38 < 2 ^ 127 = lit< tt in to_z-of_z w128 z (fits_signed_from_abs w128 z (omega (arith, h, l)))

pub clamped_is_drawn : (range : KeyRange) (key_scale scale exponent : ℕ) (units ten product power result : ℤ) → scale ≤ 18 → nat_abs units < 10 ^ 38
    → range.low <ℤ range.high → nat_abs range.low < 10 ^ 18 → nat_abs range.high < 10 ^ 18 → exponent ≡ key_scale
    → ten ≡ saturate_signed w128 (pos (10 ^ exponent)) → product ≡ saturate_signed w128 (to_z w128 (of_z w128 units) *ℤ to_z w128 (of_z w128 ten)) → power ≡ pos (10 ^ scale)
    → result ≡ int_max (to_z w128 (of_z w128 range.low)) (int_min (to_z w128 (of_z w128 (int_div (to_z w128 (of_z w128 product)) (to_z w128 (of_z w128 power))))) (to_z w128 (of_z w128 range.high)))
    → result ≡ drawn range key_scale units scale
clamped_is_drawn range key_scale scale exponent units ten product power result small bounded rising low high e t m p r =
    let wide : 10 ^ 18 < 10 ^ 38 = lit< tt in
    let saturated = saturate_signed w128 (units *ℤ saturate_signed w128 (pos (10 ^ key_scale))) in
    let ten_is : ten ≡ saturate_signed w128 (pos (10 ^ key_scale)) = t ∙ ap (λ n. saturate_signed w128 (pos (10 ^ n))) e in
    let ten_kept : to_z w128 (of_z w128 ten) ≡ saturate_signed w128 (pos (10 ^ key_scale)) = ap (λ z. to_z w128 (of_z w128 z)) ten_is ∙ to_z-of_z w128 _ (saturated_fits (pos (10 ^ key_scale))) in
    let product_is : product ≡ saturated = m ∙ ap₂ (λ a b. saturate_signed w128 (a *ℤ b)) (keeps units bounded) ten_kept in
    let product_kept : to_z w128 (of_z w128 product) ≡ saturated = ap (λ z. to_z w128 (of_z w128 z)) product_is ∙ to_z-of_z w128 saturated (saturated_fits _) in
    let power_kept : to_z w128 (of_z w128 power) ≡ pos (10 ^ scale) = ap (λ z. to_z w128 (of_z w128 z)) p ∙ to_z-of_z w128 (pos (10 ^ scale)) (power_fits scale small) in
    let quotient : FitsSigned w128 (int_div saturated (pos (10 ^ scale))) = quot_fits w128 saturated (pos (10 ^ scale)) (saturated_fits _) (let h = power_is_positive scale in omega (arith, ints, h)) in
    let quotient_kept : to_z w128 (of_z w128 (int_div (to_z w128 (of_z w128 product)) (to_z w128 (of_z w128 power)))) ≡ int_div saturated (pos (10 ^ scale)) =
    ap₂ (λ a b. to_z w128 (of_z w128 (int_div a b))) product_kept power_kept ∙ to_z-of_z w128 _ quotient in
    let low_kept = keeps range.low (omega (arith, low, wide)) in
    let high_kept = keeps range.high (omega (arith, high, wide)) in
    r ∙ ap₂ int_max low_kept (ap₂ int_min quotient_kept high_kept) ∙ is_drawn range key_scale scale units small rising low high
