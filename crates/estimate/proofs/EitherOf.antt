-- Either of two shares is a share.
use Rattle.std.proofs.Common.{◌≡◌, ◌∙◌, sym, ap, ℕ, ◌+◌, ◌-◌, ◌*◌, ◌≤◌, arith, lit≤}
use Rattle.std.proofs.Math.Nat.{le-div_iff_mul-le, mul-add, mul-le-mul_right}
use Rattle.definitions.specs.Estimates.Fractions.{million, either_of}

product_covers : (a b : ℕ) → a ≤ million → b ≤ million → (a + b - 1000000) * 1000000 ≤ a * b
product_covers a b h l =
    let whole : b + (million - b) ≡ 1000000 = omega (arith, l) in
    let spread : a * 1000000 ≡ a * b + a * (million - b) = sym (ap (λ n. a * n) whole) ∙ mul-add a b (million - b) in
    let part : a * (million - b) ≤ 1000000 * (million - b) = mul-le-mul_right (million - b) h in
    omega (arith, spread, part, h, l)

pub either_small : (a b : ℕ) → a ≤ million → b ≤ million → either_of a b ≤ million
either_small a b h l =
    let both = (le-div_iff_mul-le {k = 1000000} {x = a + b - 1000000} {y = a * b} (lit≤ tt)).1 (product_covers a b h l) in
    omega (arith, both)
