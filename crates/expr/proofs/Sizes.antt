-- Sizes of the operands of a line, one after another.
use Rattle.std.proofs.Common.{◌≡◌, ◌∙◌, refl, ap, ap₂, ℕ, ◌+◌, ◌-◌, ◌<◌, ◌≤◌, Bool, true, false, Option, Some, None, arith}
use Rattle.std.specs.Prelude.{◌||◌, max, min, nat_lt}
use Rattle.std.proofs.lemmas.Bool.Decides.{nat_tests}
use Rattle.definitions.specs.Queries.BoundBlock.{Operator, Plus, Minus, Times, Over, ValueExpr, Operands, NoOperand, Operand}
use Rattle.definitions.specs.Queries.CanRaise.{Size, joined_size, is_division, can_raise, chain_can_raise, size, chain_size}
use Rattle.expr.specs.Sizes.{capped, unless_raising, safe_size, safe_joined}

abbrev sized : ℕ → ℕ → Size
sized digits scale = record { digits = digits; scale = scale }

same_answer : (a b : Bool) (x y : Size) → a ≡ b → (b ≡ false → capped x ≡ capped y) → unless_raising a x ≡ unless_raising b y
same_answer true true x y h k = refl
same_answer false false x y h k = ap Some (k refl)
same_answer true false x y h k = absurd cc
same_answer false true x y h k = absurd cc

same_test : (a b : ℕ) → (38 < a → 38 < b) → (38 < b → 38 < a) → nat_lt 38 a ≡ nat_lt 38 b
same_test a b h k = grind (arith, nat_tests, h, k)

few : (a : ℕ) → nat_lt 38 a ≡ false → a ≤ 38
few a h = grind (arith, nat_tests, h)

abbrev sum_digits : ℕ → ℕ → ℕ → ℕ → ℕ
sum_digits d m e n = max (d - m) (e - n) + 1 + max m n

more : (d m e n : ℕ) → 38 < sum_digits (min d 255) (min m 255) (min e 255) (min n 255) → 38 < sum_digits d m e n
more d m e n h = omega (arith, h)

fewer : (d m e n : ℕ) → 38 < sum_digits d m e n → 38 < sum_digits (min d 255) (min m 255) (min e 255) (min n 255)
fewer d m e n h = omega (arith, h)

same_sum : (d m e n : ℕ) → sum_digits d m e n ≤ 38 → sum_digits (min d 255) (min m 255) (min e 255) (min n 255) ≡ sum_digits d m e n
same_sum d m e n h = omega (arith, h)

same_scale : (d m e n : ℕ) → sum_digits d m e n ≤ 38 → max (min m 255) (min n 255) ≡ max m n
same_scale d m e n h = omega (arith, h)

more_product : (d e : ℕ) → 38 < min d 255 + min e 255 → 38 < d + e
more_product d e h = omega (arith, h)

fewer_product : (d e : ℕ) → 38 < d + e → 38 < min d 255 + min e 255
fewer_product d e h = omega (arith, h)

same_product : (d e : ℕ) → d + e ≤ 38 → min (min d 255 + min e 255) 255 ≡ min (d + e) 255
same_product d e h = omega (arith, h)

same_product_scale : (m n : ℕ) → min (min m 255 + min n 255) 255 ≡ min (m + n) 255
same_product_scale m n = omega (arith)

sum_capped : (s t : Size) → unless_raising (nat_lt 38 (joined_size Plus (capped s) (capped t)).digits) (joined_size Plus (capped s) (capped t)) ≡ unless_raising (nat_lt 38 (joined_size Plus s t).digits) (joined_size Plus s t)
sum_capped s t =
    same_answer _ _ _ _ (same_test _ _ (more s.digits s.scale t.digits t.scale) (fewer s.digits s.scale t.digits t.scale))
    (λ h. let small : sum_digits s.digits s.scale t.digits t.scale ≤ 38 = few (sum_digits s.digits s.scale t.digits t.scale) h in
    ap₂ (λ d m. capped (sized d m)) (same_sum s.digits s.scale t.digits t.scale small) (same_scale s.digits s.scale t.digits t.scale small))

product_capped : (s t : Size) → unless_raising (nat_lt 38 (joined_size Times (capped s) (capped t)).digits) (joined_size Times (capped s) (capped t)) ≡ unless_raising (nat_lt 38 (joined_size Times s t).digits) (joined_size Times s t)
product_capped s t =
    same_answer _ _ _ _ (same_test _ _ (more_product s.digits t.digits) (fewer_product s.digits t.digits))
    (λ h. ap₂ sized (same_product s.digits t.digits (few (s.digits + t.digits) h)) (same_product_scale s.scale t.scale))

-- two operands of which the second can raise, or can't
step : (operator : Operator) (s t : Size) (raises : Bool) → safe_joined operator (Some (capped s)) (unless_raising raises t) ≡ unless_raising (is_division operator || raises || nat_lt 38 (joined_size operator s t).digits) (joined_size operator s t)
step Plus s t true = refl
step Minus s t true = refl
step Times s t true = refl
step Over s t raises = over raises
  where
    over : (raises : Bool) → safe_joined Over (Some (capped s)) (unless_raising raises t) ≡ None
    over true = refl
    over false = refl
step Plus s t false = sum_capped s t
step Minus s t false = sum_capped s t
step Times s t false = product_capped s t

-- ---- lines

abbrev pub safe_line : Option Size → Operands → Option Size
safe_line left NoOperand = left
safe_line left (Operand operator e others) = safe_line (safe_joined operator left (safe_size e)) others

none_is_safe : (others : Operands) → safe_line None others ≡ None
none_is_safe NoOperand = refl
none_is_safe (Operand operator e others) = none_is_safe others

rest_is_safe : (raises : Bool) (s : Size) (others : Operands) → safe_line (Some (capped s)) others ≡ unless_raising (chain_can_raise s others) (chain_size s others) → safe_line (unless_raising raises s) others ≡ unless_raising (raises || chain_can_raise s others) (chain_size s others)
rest_is_safe true s others h = none_is_safe others
rest_is_safe false s others h = h

regrouped : (a b c d : Bool) (s : Size) → unless_raising ((a || b || c) || d) s ≡ unless_raising (a || b || c || d) s
regrouped true b c d s = refl
regrouped false true c d s = refl
regrouped false false c d s = refl

line_is_safe : (s : Size) (others : Operands) → safe_line (Some (capped s)) others ≡ unless_raising (chain_can_raise s others) (chain_size s others)
line_is_safe s NoOperand = refl
line_is_safe s (Operand operator e others) =
    let joined : Size = joined_size operator s (size e) in
    let raises : Bool = is_division operator || can_raise e || nat_lt 38 joined.digits in
    ap (λ x. safe_line x others) (step operator s (size e) (can_raise e))
    ∙ rest_is_safe raises joined others (line_is_safe joined others)
    ∙ regrouped (is_division operator) (can_raise e) (nat_lt 38 joined.digits) (chain_can_raise joined others) (chain_size joined others)

pub chain_is_safe : (first : ValueExpr) (others : Operands) → safe_line (safe_size first) others ≡ unless_raising (can_raise first || chain_can_raise (size first) others) (chain_size (size first) others)
chain_is_safe first others = rest_is_safe (can_raise first) (size first) others (line_is_safe (size first) others)
