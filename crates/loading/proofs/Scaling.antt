-- Powers of ten, and units at one scale as units at another.
use Rattle.std.proofs.Common.{◌≡◌, ◌∙◌, refl, sym, ap, inl, inr, ℕ, zero, suc, ◌+◌, ◌-◌, ◌*◌, ◌/◌, ◌%◌, ◌^◌, ◌<◌, ◌≤◌, arith, lit<}
use Rattle.std.specs.Prelude.{◌⊎◌, min, Option, Some, None, IfSome, IfNone}
use Rattle.std.proofs.lemmas.Bool.{cases_lt}
use Rattle.std.proofs.lemmas.Nat.{pow-add}
use Rattle.std.proofs.Math.Nat.{mul-div_cancel, mul-mod_left, pow-le-pow_right, div-add-mod}
use Rattle.definitions.proofs.Ranking.{power_is_positive}

pub power_is_within : (n m : ℕ) → n ≤ m → 10 ^ n ≤ 10 ^ m
power_is_within n m h = pow-le-pow_right {n = 10} (lit< tt) h

-- a power as a product of two
split_power : (a b : ℕ) → a ≤ b → 10 ^ b ≡ 10 ^ (b - a) * 10 ^ a
split_power a b h = let e : b ≡ b - a + a = omega (arith, h) in ap (λ n. 10 ^ n) e ∙ pow-add 10 (b - a) a

factor : (m n k : ℕ) → 0 < k → m * k ≡ n * k → m ≡ n
factor m n k h e = sym (mul-div_cancel m h) ∙ ap (λ x. x / k) e ∙ mul-div_cancel n h

-- up to a greater scale
pub up : (size units from to : ℕ) → from ≤ to → size ≡ units * 10 ^ (to - from) → size * 10 ^ from ≡ units * 10 ^ to
up size units from to h e =
    let k : (units * 10 ^ (to - from)) * 10 ^ from ≡ units * (10 ^ (to - from) * 10 ^ from) = omega arith in
    ap (λ x. x * 10 ^ from) e ∙ k ∙ ap (λ x. units * x) (sym (split_power from to h))

pub from_up : (size units from to : ℕ) → from ≤ to → size * 10 ^ from ≡ units * 10 ^ to → size ≡ units * 10 ^ (to - from)
from_up size units from to h e = factor size (units * 10 ^ (to - from)) (10 ^ from) (power_is_positive from) (e ∙ sym (up (units * 10 ^ (to - from)) units from to h refl))

-- down to a smaller one
pub down : (size units from to : ℕ) → to ≤ from → size * 10 ^ (from - to) ≡ units → size * 10 ^ from ≡ units * 10 ^ to
down size units from to h e =
    let k : size * (10 ^ (from - to) * 10 ^ to) ≡ (size * 10 ^ (from - to)) * 10 ^ to = omega arith in
    ap (λ x. size * x) (split_power to from h) ∙ k ∙ ap (λ x. x * 10 ^ to) e

pub from_down : (size units from to : ℕ) → to ≤ from → size * 10 ^ from ≡ units * 10 ^ to → size * 10 ^ (from - to) ≡ units
from_down size units from to h e =
    factor (size * 10 ^ (from - to)) units (10 ^ to) (power_is_positive to) (sym (down size (size * 10 ^ (from - to)) from to h refl) ∙ e)

-- a quotient with a rest is of no whole number, and one that is too great of none that is not
pub no_quotient : (units divisor limit : ℕ) → 0 < divisor → ((units % divisor ≡ 0) × (limit ≤ units / divisor)) ⊎ (units % divisor ≡ 0 → ⊥) → (size : ℕ) → size * divisor ≡ units → limit ≤ size
no_quotient units divisor limit h (inl g) size e = let k : units / divisor ≡ size = ap (λ x. x / divisor) (sym e) ∙ mul-div_cancel size h in omega (arith, g.1, k)
no_quotient units divisor limit h (inr g) size e = absurd (g (ap (λ x. x % divisor) (sym e) ∙ mul-mod_left size divisor))

pub quotient : (units divisor : ℕ) → units % divisor ≡ 0 → units / divisor * divisor ≡ units
quotient units divisor h = let e : divisor * (units / divisor) + units % divisor ≡ units = div-add-mod units divisor in omega (arith, e, h)

-- the same, of an answer that there may be
pub scaled_up_some : (size : Option ℕ) (units times from to limit : ℕ) → from ≤ to → times ≡ 10 ^ (to - from)
    → IfSome size (λ s. (s ≡ units * times) × (s < limit)) → IfSome size (λ s. (s * 10 ^ from ≡ units * 10 ^ to) × (s < limit))
scaled_up_some None units times from to limit h e i = i
scaled_up_some (Some s) units times from to limit h e i = (up s units from to h (i.0 ∙ ap (λ x. units * x) e), i.1)

pub scaled_up_none : (size : Option ℕ) (units times from to limit : ℕ) → from ≤ to → times ≡ 10 ^ (to - from)
    → IfNone size (limit ≤ units * times) → IfNone size ((s : ℕ) → s * 10 ^ from ≡ units * 10 ^ to → limit ≤ s)
scaled_up_none None units times from to limit h e i = λ s g. let k : s ≡ units * times = from_up s units from to h g ∙ ap (λ x. units * x) (sym e) in rw k i
scaled_up_none (Some s) units times from to limit h e i = i

-- a power of ten that no units reach stands for any greater one
at_least_once : (n k : ℕ) → k ≤ suc n * k
at_least_once n k = omega arith

none_reached : (size units k : ℕ) → units < 10 ^ 38 → 38 ≤ k → size * 10 ^ k ≡ units → (size ≡ 0) × (units ≡ 0)
none_reached zero units k h l e = (refl, omega (arith, e))
none_reached (suc size) units k h l e = absurd (omega (arith, h, e, power_is_within 38 k l, at_least_once size (10 ^ k)))

zero_times : (n : ℕ) → 0 * n ≡ 0
zero_times n = omega arith

other_power : (size units k l : ℕ) → units < 10 ^ 38 → 38 ≤ k → size * 10 ^ k ≡ units → size * 10 ^ l ≡ units
other_power size units k l h m e = let (none, nothing) = none_reached size units k h m e in rw (none, nothing) (zero_times (10 ^ l))

power_by : (size units divisor k : ℕ) → (k < 38) ⊎ (38 ≤ k) → units < 10 ^ 38 → divisor ≡ 10 ^ min k 38 → size * divisor ≡ units → size * 10 ^ k ≡ units
power_by size units divisor k (inl h) l e i = let same : min k 38 ≡ k = omega (arith, h) in ap (λ n. size * 10 ^ n) (sym same) ∙ ap (λ x. size * x) (sym e) ∙ i
power_by size units divisor k (inr h) l e i = let same : min k 38 ≡ 38 = omega (arith, h) in other_power size units 38 k l (omega arith) (ap (λ n. size * 10 ^ n) (sym same) ∙ ap (λ x. size * x) (sym e) ∙ i)

by_power : (size units divisor k : ℕ) → (k < 38) ⊎ (38 ≤ k) → units < 10 ^ 38 → divisor ≡ 10 ^ min k 38 → size * 10 ^ k ≡ units → size * divisor ≡ units
by_power size units divisor k (inl h) l e i = let same : min k 38 ≡ k = omega (arith, h) in ap (λ x. size * x) e ∙ ap (λ n. size * 10 ^ n) same ∙ i
by_power size units divisor k (inr h) l e i = let same : min k 38 ≡ 38 = omega (arith, h) in ap (λ x. size * x) e ∙ ap (λ n. size * 10 ^ n) same ∙ other_power size units k 38 l h i

pub scaled_down_some : (size : Option ℕ) (units divisor from to limit : ℕ) → units < 10 ^ 38 → to < from → divisor ≡ 10 ^ min (from - to) 38
    → IfSome size (λ s. (s * divisor ≡ units) × (s < limit)) → IfSome size (λ s. (s * 10 ^ from ≡ units * 10 ^ to) × (s < limit))
scaled_down_some None units divisor from to limit l h e i = i
scaled_down_some (Some s) units divisor from to limit l h e i = (down s units from to (omega (arith, h)) (power_by s units divisor (from - to) (cases_lt (from - to) 38) l e i.0), i.1)

pub scaled_down_none : (size : Option ℕ) (units divisor from to limit : ℕ) → units < 10 ^ 38 → to < from → divisor ≡ 10 ^ min (from - to) 38
    → IfNone size ((s : ℕ) → s * divisor ≡ units → limit ≤ s) → IfNone size ((s : ℕ) → s * 10 ^ from ≡ units * 10 ^ to → limit ≤ s)
scaled_down_none None units divisor from to limit l h e i = λ s g. i s (by_power s units divisor (from - to) (cases_lt (from - to) 38) l e (from_down s units from to (omega (arith, h)) g))
scaled_down_none (Some s) units divisor from to limit l h e i = i
