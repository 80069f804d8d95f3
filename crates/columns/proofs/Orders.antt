-- The order of signed numbers under a product, a quotient and a limit.
use Rattle.std.proofs.Common.{◌≡◌, ◌∙◌, refl, sym, ap, ap₂, ℕ, zero, suc, ◌+◌, ◌-◌, ◌*◌, ◌/◌, ◌^◌, ◌<◌, ◌≤◌, Bool, true, false, not, leb, arith}
use Rattle.std.specs.Prelude.{ℤ, pos, negsuc, neg_ℤ, ◌<ℤ◌, ◌*ℤ◌, ◌-ℤ◌, ◌+ℤ◌, int_le, int_lt, ◌&&◌, FitsSigned}
use Rattle.std.specs.declared.cmp.Ordering.{Ordering}
use Rattle.std.specs.declared.cmp.Ordering.TheVariants.{Less, Equal, Greater}
use Rattle.std.specs.Ordering.{int_cmp, is_eq, is_ne, is_lt, is_le, is_gt, is_ge}
use Rattle.std.specs.Int.{w64, w128, int_div_euclid, int_max, int_min, saturate_signed}
use Rattle.std.proofs.lemmas.Int.{ints, clamps}
use Rattle.std.proofs.lemmas.Bool.Decides.{nat_tests}
use Rattle.std.proofs.lemmas.Nat.{pow-add}
use Rattle.std.proofs.Math.Nat.{mul-le-mul_right, div-lt_iff_lt-mul, le-div_iff_mul-le, le_of_mul-le-mul_left}
use Rattle.definitions.specs.Value.{number_cmp}
use Rattle.columns.specs.declared.range.UnitRange.{UnitRange}
use Rattle.columns.specs.Ranges.{is_in}
use Rattle.definitions.proofs.Ranking.{power_is_positive}

-- tests that imply each other
same_le : (a b m n : ℕ) → (a ≤ b → m ≤ n) → (m ≤ n → a ≤ b) → leb a b ≡ leb m n
same_le a b m n h k = grind (arith, nat_tests)

cancel : (m n k : ℕ) → 0 < k → m * k ≤ n * k → m ≤ n
cancel m n k h e = le_of_mul-le-mul_left {k = k} (omega (arith, e)) h

le_times : (m n k : ℕ) → 0 < k → leb (m * k) (n * k) ≡ leb m n
le_times m n k h = same_le (m * k) (n * k) m n (cancel m n k h) (λ g. mul-le-mul_right k g)

negative : (n k : ℕ) → negsuc n *ℤ pos (suc k) ≡ negsuc (k + n * suc k)
negative n k = let e : suc n * suc k ≡ suc (k + n * suc k) = omega arith in ap (λ x. neg_ℤ (pos x)) e

-- a product with a positive number keeps the order
pub le_product : (a b : ℤ) (k : ℕ) → 0 < k → int_le (a *ℤ pos k) (b *ℤ pos k) ≡ int_le a b
le_product a b zero h = absurd (omega (arith, h))
le_product (pos m) (pos n) (suc k) h = le_times m n (suc k) h
le_product (pos m) (negsuc n) (suc k) h = rw (negative n k) refl
le_product (negsuc m) (pos n) (suc k) h = rw (negative m k) refl
le_product (negsuc m) (negsuc n) (suc k) h =
    rw (negative m k, negative n k) (same_le (k + n * suc k) (k + m * suc k) n m (λ g. cancel n m (suc k) h (omega (arith, g))) (λ g. omega (arith, mul-le-mul_right (suc k) g)))

-- a quotient that rounds down is the greatest number whose product with the divisor is not above the dividend
pub le_quotient : (a b : ℤ) (k : ℕ) → 0 < k → int_le (a *ℤ pos k) b ≡ int_le a (int_div_euclid b (pos k))
le_quotient a b zero h = absurd (omega (arith, h))
le_quotient (pos m) (pos n) (suc k) h = same_le (m * suc k) n m (n / suc k) ((le-div_iff_mul-le h).1) ((le-div_iff_mul-le h).0)
le_quotient (pos m) (negsuc n) (suc k) h = refl
le_quotient (negsuc m) (pos n) (suc k) h = rw (negative m k) refl
le_quotient (negsuc m) (negsuc n) (suc k) h =
    let i = div-lt_iff_lt-mul {x = n} {y = suc m} h in
    rw (negative m k) (same_le n (k + m * suc k) (n / suc k) m (λ g. omega (arith, i.1 (omega (arith, g)))) (λ g. omega (arith, i.0 (omega (arith, g)))))

pub lt_as_le : (a b : ℤ) → int_lt a b ≡ int_le a (b -ℤ pos 1)
lt_as_le a b = grind (arith, ints)

pub lt_as_not_le : (a b : ℤ) → int_lt a b ≡ not (int_le b a)
lt_as_not_le a b = grind (arith, ints)

pub lt_product : (a b : ℤ) (k : ℕ) → 0 < k → int_lt (a *ℤ pos k) (b *ℤ pos k) ≡ int_lt a b
lt_product a b k h = lt_as_not_le (a *ℤ pos k) (b *ℤ pos k) ∙ ap not (le_product b a k h) ∙ sym (lt_as_not_le a b)

negated_times : (n k : ℕ) → neg_ℤ (pos n) *ℤ pos k ≡ neg_ℤ (pos (n * k))
negated_times zero k = let e : 0 * k ≡ 0 = omega arith in rw e refl
negated_times (suc n) k = refl

times_times : (a : ℤ) (j k : ℕ) → a *ℤ pos (j * k) ≡ (a *ℤ pos j) *ℤ pos k
times_times (pos m) j k = ap pos (omega arith)
times_times (negsuc m) j k =
    let e : suc m * (j * k) ≡ (suc m * j) * k = omega arith in
    ap (λ x. neg_ℤ (pos x)) e ∙ sym (negated_times (suc m * j) k)

-- limits past 64 bits leave the order with numbers of 64 bits
pub le_saturated : (u z : ℤ) → FitsSigned w64 u → int_le u (saturate_signed w128 z) ≡ int_le u z
le_saturated u z h = grind (arith, ints)

pub saturated_le : (u z : ℤ) → FitsSigned w64 u → int_le (saturate_signed w128 z) u ≡ int_le z u
saturated_le u z h = grind (arith, ints)

-- a power as a product of two
split_power : (a b : ℕ) → a ≤ b → 10 ^ b ≡ 10 ^ (b - a) * 10 ^ a
split_power a b h = let e : b ≡ b - a + a = omega (arith, h) in ap (λ n. 10 ^ n) e ∙ pow-add 10 (b - a) a

scaled : (a : ℤ) (m n : ℕ) → m ≤ n → a *ℤ pos (10 ^ n) ≡ (a *ℤ pos (10 ^ (n - m))) *ℤ pos (10 ^ m)
scaled a m n h = ap (λ x. a *ℤ pos x) (split_power m n h) ∙ times_times a (10 ^ (n - m)) (10 ^ m)

-- units at one scale and a number at a smaller one
pub at_most_up : (u v p most : ℤ) (n s : ℕ) → FitsSigned w64 u → n ≤ s → p ≡ pos (10 ^ (s - n)) → most ≡ saturate_signed w128 (v *ℤ p)
    → int_le (u *ℤ pos (10 ^ n)) (v *ℤ pos (10 ^ s)) ≡ int_le u most
at_most_up u v p most n s h l e i =
    ap (int_le (u *ℤ pos (10 ^ n))) (scaled v n s l) ∙ le_product u _ (10 ^ n) (power_is_positive n) ∙ ap (λ x. int_le u (v *ℤ x)) (sym e) ∙ sym (le_saturated u _ h) ∙ ap (int_le u) (sym i)

pub below_up : (u v p most below : ℤ) (n s : ℕ) → FitsSigned w64 u → n ≤ s → p ≡ pos (10 ^ (s - n)) → most ≡ saturate_signed w128 (v *ℤ p) → below ≡ saturate_signed w128 (most -ℤ pos 1)
    → int_lt (u *ℤ pos (10 ^ n)) (v *ℤ pos (10 ^ s)) ≡ int_le u below
below_up u v p most below n s h l e i j =
    ap (int_lt (u *ℤ pos (10 ^ n))) (scaled v n s l) ∙ lt_product u _ (10 ^ n) (power_is_positive n) ∙ ap (λ x. int_lt u (v *ℤ x)) (sym e)
    ∙ lt_as_not_le u (v *ℤ p) ∙ ap not (sym (saturated_le u _ h) ∙ ap (λ x. int_le x u) (sym i)) ∙ sym (lt_as_not_le u most)
    ∙ lt_as_le u most ∙ sym (le_saturated u _ h) ∙ ap (int_le u) (sym j)

-- at the same scale the units are compared as they are
pub at_most_same : (u v : ℤ) (n s : ℕ) → n ≡ s → int_le (u *ℤ pos (10 ^ n)) (v *ℤ pos (10 ^ s)) ≡ int_le u v
at_most_same u v n s e = ap (λ k. int_le (u *ℤ pos (10 ^ k)) (v *ℤ pos (10 ^ s))) e ∙ le_product u v (10 ^ s) (power_is_positive s)

pub below_same : (u v : ℤ) (n s : ℕ) → n ≡ s → int_lt (u *ℤ pos (10 ^ n)) (v *ℤ pos (10 ^ s)) ≡ int_le u (v -ℤ pos 1)
below_same u v n s e =
    ap (λ k. int_lt (u *ℤ pos (10 ^ k)) (v *ℤ pos (10 ^ s))) e ∙ lt_product u v (10 ^ s) (power_is_positive s) ∙ lt_as_le u v

-- and at a greater one
pub at_most_down : (u v p most : ℤ) (n s : ℕ) → s ≤ n → p ≡ pos (10 ^ (n - s)) → most ≡ int_div_euclid v p
    → int_le (u *ℤ pos (10 ^ n)) (v *ℤ pos (10 ^ s)) ≡ int_le u most
at_most_down u v p most n s l e i =
    ap (λ x. int_le x (v *ℤ pos (10 ^ s))) (scaled u s n l) ∙ le_product _ v (10 ^ s) (power_is_positive s) ∙ le_quotient u v (10 ^ (n - s)) (power_is_positive (n - s))
    ∙ ap (λ x. int_le u (int_div_euclid v x)) (sym e) ∙ ap (int_le u) (sym i)

pub below_down : (u v p below : ℤ) (n s : ℕ) → s ≤ n → p ≡ pos (10 ^ (n - s)) → below ≡ int_div_euclid (v -ℤ pos 1) p
    → int_lt (u *ℤ pos (10 ^ n)) (v *ℤ pos (10 ^ s)) ≡ int_le u below
below_down u v p below n s l e i =
    ap (λ x. int_lt x (v *ℤ pos (10 ^ s))) (scaled u s n l) ∙ lt_product _ v (10 ^ s) (power_is_positive s) ∙ lt_as_le _ v ∙ le_quotient u (v -ℤ pos 1) (10 ^ (n - s)) (power_is_positive (n - s))
    ∙ ap (λ x. int_le u (int_div_euclid (v -ℤ pos 1) x)) (sym e) ∙ ap (int_le u) (sym i)

pub above_zero : (p : ℤ) (n : ℕ) → p ≡ pos (10 ^ n) → pos 0 <ℤ p
above_zero p n e = let h : 0 < 10 ^ n = power_is_positive n in omega (arith, ints, e, h)

-- limits of 64 bits leave the order with numbers of 64 bits
pub raised : (u low limit m : ℤ) → FitsSigned w64 u → limit ≡ negsuc (2 ^ 63 - 1) → m ≡ int_max low limit → int_le low u ≡ int_le m u
raised u low limit m h l e = grind (arith, ints, clamps)

pub lowered : (u high limit m : ℤ) → FitsSigned w64 u → limit ≡ pos (2 ^ 63 - 1) → m ≡ int_min high limit → int_le u high ≡ int_le u m
lowered u high limit m h l e = grind (arith, ints, clamps)

-- each number of 64 bits lies between their limits
pub above_least : (u least : ℤ) → FitsSigned w64 u → least ≡ negsuc (2 ^ 63 - 1) → int_le least u ≡ true
above_least u least h e = grind (arith, ints)

pub below_greatest : (u greatest : ℤ) → FitsSigned w64 u → greatest ≡ pos (2 ^ 63 - 1) → int_le u greatest ≡ true
below_greatest u greatest h e = grind (arith, ints)

-- above a number is from the next one on
pub from_next : (u n next : ℤ) → FitsSigned w64 u → next ≡ saturate_signed w128 (n +ℤ pos 1) → int_le next u ≡ not (int_le u n)
from_next u n next h e =
    let k : int_le (n +ℤ pos 1) u ≡ not (int_le u n) = grind (arith, ints) in
    ap (λ x. int_le x u) e ∙ saturated_le u (n +ℤ pos 1) h ∙ k

and_true : (b : Bool) → (b && true) ≡ b
and_true true = refl
and_true false = refl

-- what each operator asks of the order, by two tests
pub eq_by_tests : (x y : ℤ) → is_eq (int_cmp x y) ≡ (not (int_lt x y) && int_le x y)
eq_by_tests x y = grind (arith, ints)

pub ne_by_tests : (o : Ordering) → is_ne o ≡ not (is_eq o)
ne_by_tests Less = refl
ne_by_tests Equal = refl
ne_by_tests Greater = refl

pub lt_by_tests : (x y : ℤ) → is_lt (int_cmp x y) ≡ int_lt x y
lt_by_tests x y = grind (arith, ints)

pub le_by_tests : (x y : ℤ) → is_le (int_cmp x y) ≡ int_le x y
le_by_tests x y = grind (arith, ints)

pub gt_by_tests : (x y : ℤ) → is_gt (int_cmp x y) ≡ not (int_le x y)
gt_by_tests x y = grind (arith, ints)

pub ge_by_tests : (x y : ℤ) → is_ge (int_cmp x y) ≡ not (int_lt x y)
ge_by_tests x y = grind (arith, ints)

pub is_in_inside : (range : UnitRange) (u : ℤ) → range.outside ≡ false → is_in range u ≡ (int_le range.low u && int_le u range.high)
is_in_inside range u h = rw h refl

-- what each operator asks, as two bounds of units
module _ (u v : ℤ) (s n : ℕ) (below most : ℤ) (h : FitsSigned w64 u) (lt : int_lt (u *ℤ pos (10 ^ n)) (v *ℤ pos (10 ^ s)) ≡ int_le u below) (le : int_le (u *ℤ pos (10 ^ n)) (v *ℤ pos (10 ^ s)) ≡ int_le u most) where
  pub equal_in : (low : ℤ) → low ≡ saturate_signed w128 (below +ℤ pos 1) → is_eq (number_cmp u s v n) ≡ (int_le low u && int_le u most)
  equal_in low e = eq_by_tests (u *ℤ pos (10 ^ n)) (v *ℤ pos (10 ^ s)) ∙ ap₂ ◌&&◌ (ap not lt ∙ sym (from_next u below low h e)) le

  pub not_equal_in : (low : ℤ) → low ≡ saturate_signed w128 (below +ℤ pos 1) → is_ne (number_cmp u s v n) ≡ not (int_le low u && int_le u most)
  not_equal_in low e = ne_by_tests (number_cmp u s v n) ∙ ap not (equal_in low e)

  pub less_in : (least : ℤ) → least ≡ negsuc (2 ^ 63 - 1) → is_lt (number_cmp u s v n) ≡ (int_le least u && int_le u below)
  less_in least e = lt_by_tests (u *ℤ pos (10 ^ n)) (v *ℤ pos (10 ^ s)) ∙ lt ∙ ap (λ b. b && int_le u below) (sym (above_least u least h e))

  pub less_or_equal_in : (least : ℤ) → least ≡ negsuc (2 ^ 63 - 1) → is_le (number_cmp u s v n) ≡ (int_le least u && int_le u most)
  less_or_equal_in least e = le_by_tests (u *ℤ pos (10 ^ n)) (v *ℤ pos (10 ^ s)) ∙ le ∙ ap (λ b. b && int_le u most) (sym (above_least u least h e))

  pub greater_in : (low greatest : ℤ) → low ≡ saturate_signed w128 (most +ℤ pos 1) → greatest ≡ pos (2 ^ 63 - 1) → is_gt (number_cmp u s v n) ≡ (int_le low u && int_le u greatest)
  greater_in low greatest e i =
      gt_by_tests (u *ℤ pos (10 ^ n)) (v *ℤ pos (10 ^ s)) ∙ ap not le ∙ sym (from_next u most low h e) ∙ sym (and_true (int_le low u)) ∙ ap (λ b. int_le low u && b) (sym (below_greatest u greatest h i))

  pub greater_or_equal_in : (low greatest : ℤ) → low ≡ saturate_signed w128 (below +ℤ pos 1) → greatest ≡ pos (2 ^ 63 - 1) → is_ge (number_cmp u s v n) ≡ (int_le low u && int_le u greatest)
  greater_or_equal_in low greatest e i =
      ge_by_tests (u *ℤ pos (10 ^ n)) (v *ℤ pos (10 ^ s)) ∙ ap not lt ∙ sym (from_next u below low h e) ∙ sym (and_true (int_le low u)) ∙ ap (λ b. int_le low u && b) (sym (below_greatest u greatest h i))
