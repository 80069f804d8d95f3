-- Expressions that cannot raise do not: their numbers have no more digits than was counted.
use Rattle.std.proofs.Common.{◌≡◌, refl, sym, ap, ap₂, ◌∙◌, subst, ℕ, zero, suc, ◌+◌, ◌-◌, ◌*◌, ◌^◌, ◌<◌, ◌≤◌, List, [], ◌∷◌, ◌++◌, Some, None, true, false, arith, lit<, pow-add}
use Rattle.std.specs.Prelude.{ℤ, pos, negsuc, neg_ℤ, ◌+ℤ◌, ◌*ℤ◌, ◌≤ℤ◌, ◌<ℤ◌, nat_abs, Bool, ◌&&◌, ◌||◌, max, nat_lt, ⊤, get_or, map, Option, not, if◌then◌else◌}
use Rattle.std.specs.List.{AllByRecursion, list_any}
use Rattle.std.proofs.Math.Nat.{le-max_left, le-max_right, pow-le-pow_right, mul-lt-mul_of_pos_right}
use Rattle.std.proofs.lemmas.Bool.{or_parts}
use mathlib.Core.Bool.{true≢false}
use Rattle.std.proofs.lemmas.Bool.Decides.{nat_tests}
use Rattle.std.proofs.lemmas.Int.{ints}
use Rattle.std.proofs.lemmas.Nat.{mul-lt}
use Rattle.definitions.specs.Value.{Value, Null, Number, Text, SqlType, Smallint, Integer, Numeric, Char, IsType, HasType, is_null}
use Rattle.definitions.specs.Arithmetic.{Meaning, Is, is_in_bounds, judged, at_scale, negative, plus, minus, times, raised, OutOfRange}
use Rattle.definitions.specs.Statement.{Equals, GreaterOrEquals, LessOrEquals}
use Rattle.definitions.specs.Truth.{Truth, and, opposite, all_true, any_true, compared, compared_with_any, unless, known}
use Rattle.definitions.specs.Pattern.{like}
use Rattle.definitions.specs.Queries.BoundBlock as b
use Rattle.definitions.specs.Queries.BoundBlock.{ValueExpr, Condition, Conditions, Operands, NoOperand, Operand, Operator}
use Rattle.definitions.specs.Queries.Evaluation.{Environment, value, chained, cell, operation, signed, truth, truths, member, in_order, on_one, on_two, and_then_two}
use Rattle.definitions.specs.Queries.CanRaise.{Size, size, chain_size, sum_size, joined_size, type_size, can_raise, chain_can_raise, is_division}
use Rattle.definitions.specs.Queries.Conjuncts.{values_of, values_of_parts, member_values, tested_blocks, tested_blocks_of_parts, is_empty}
use Rattle.definitions.proofs.Ranking.{power_is_positive}
use Rattle.definitions.specs.Queries.Laws.{FitsTypes, AllFitTypes, WhatCannotRaiseDoesNot, ConditionsThatCannotRaiseDoNot}

-- ---- sizes of integers

abs_below : (z : ℤ) (k : ℕ) → z ≤ℤ pos k → neg_ℤ (pos k) ≤ℤ z → nat_abs z ≤ k
abs_below (pos n) k h l = omega (arith, ints, h)
abs_below (negsuc n) k h l = omega (arith, ints, l)

abs_above : (z : ℤ) → (z ≤ℤ pos (nat_abs z)) × (neg_ℤ (pos (nat_abs z)) ≤ℤ z)
abs_above (pos n) = (omega (arith, ints), omega (arith, ints))
abs_above (negsuc n) = (omega (arith, ints), omega (arith, ints))

abs_sum : (x y : ℤ) → nat_abs (x +ℤ y) ≤ nat_abs x + nat_abs y
abs_sum x y =
    let a = abs_above x in
    let c = abs_above y in
    abs_below (x +ℤ y) (nat_abs x + nat_abs y) (omega (arith, ints, a.0, c.0)) (omega (arith, ints, a.1, c.1))

abs_neg : (x : ℤ) → nat_abs (neg_ℤ x) ≡ nat_abs x
abs_neg (pos zero) = refl
abs_neg (pos (suc n)) = refl
abs_neg (negsuc n) = refl

abs_neg_product : (j q : ℕ) → nat_abs (neg_ℤ (pos (j * q))) ≡ j * q
abs_neg_product j q = abs_neg (pos (j * q))

abs_product : (x y : ℤ) → nat_abs (x *ℤ y) ≡ nat_abs x * nat_abs y
abs_product (pos m) (pos n) = refl
abs_product (pos m) (negsuc n) = abs_neg_product m (suc n)
abs_product (negsuc m) (pos n) = abs_neg_product (suc m) n
abs_product (negsuc m) (negsuc n) = refl

in_bounds : (u : ℤ) (d : ℕ) → nat_abs u < 10 ^ d → d ≤ 38 → is_in_bounds u ≡ true
in_bounds u d h l =
    let p : 10 ^ d ≤ 10 ^ 38 = pow-le-pow_right (lit< tt) l in
    let less : nat_abs u < 10 ^ 38 = omega (arith, h, p) in
    grind (arith, nat_tests, less)

-- units of a scale brought to one that is greater by k
scaled : (u : ℤ) (k d : ℕ) → nat_abs u < 10 ^ d → nat_abs (u *ℤ pos (10 ^ k)) < 10 ^ (d + k)
scaled u k d h = rw (abs_product u (pos (10 ^ k)), pow-add 10 d k) (mul-lt-mul_of_pos_right h (power_is_positive k))

-- ---- values that have no more digits than a size says

abbrev Fits : Size → Value → Type 0
Fits s (Number units scale) = (scale ≡ s.scale) × (nat_abs units < 10 ^ s.digits)
Fits s _ = ⊤

abbrev Gives : Meaning Value → Size → Type 0
Gives m s = (v : Value) × (m ≡ Is v) × Fits s v

judged_fits : (u : ℤ) (s : Size) → nat_abs u < 10 ^ s.digits → s.digits ≤ 38 → Gives (judged u s.scale) s
judged_fits u s h l = (Number u s.scale, ap (λ t. if t then Is (Number u s.scale) else raised OutOfRange) (in_bounds u s.digits h l), (refl, h))

abbrev sized : ℕ → ℕ → Size
sized digits scale = record { digits = digits; scale = scale }

-- two numbers below P = 10 ^ (X + M) have a sum below 10 P
two_below : (x y p : ℕ) → x < p → y < p → x + y < p * 10
two_below x y p h l = omega (arith, h, l)

one_more : (x m : ℕ) → 10 ^ (x + 1 + m) ≡ 10 ^ (x + m) * 10
one_more x m = ap (λ j. 10 ^ j) (let e : x + 1 + m ≡ x + m + 1 = omega arith in e) ∙ pow-add 10 (x + m) 1

-- one operand of a sum, at the scale of the sum
operand_below : (a : ℤ) (m d scale most : ℕ) → nat_abs a < 10 ^ d → m ≤ scale → d - m ≤ most → nat_abs (at_scale scale a m) < 10 ^ (most + scale)
operand_below a m d scale most h l k =
    let below : nat_abs (at_scale scale a m) < 10 ^ (d + (scale - m)) = scaled a (scale - m) d h in
    let wider : 10 ^ (d + (scale - m)) ≤ 10 ^ (most + scale) = pow-le-pow_right (lit< tt) (omega (arith, l, k)) in
    omega (arith, below, wider)

sum_fits : (a b : ℤ) (m n d e : ℕ) → nat_abs a < 10 ^ d → nat_abs b < 10 ^ e → (sum_size (sized d m) (sized e n)).digits ≤ 38 → Gives (plus (Number a m) (Number b n)) (sum_size (sized d m) (sized e n))
sum_fits a b m n d e h l few =
    let scale : ℕ = max m n in
    let most : ℕ = max (d - m) (e - n) in
    let left : nat_abs (at_scale scale a m) < 10 ^ (most + scale) = operand_below a m d scale most h (le-max_left m n) (le-max_left (d - m) (e - n)) in
    let right : nat_abs (at_scale scale b n) < 10 ^ (most + scale) = operand_below b n e scale most l (le-max_right m n) (le-max_right (d - m) (e - n)) in
    let fewer : most + scale ≤ 38 = omega (arith, few) in
    let together : nat_abs (at_scale scale a m +ℤ at_scale scale b n) < 10 ^ (most + 1 + scale) =
    rw (one_more most scale) (let s = abs_sum (at_scale scale a m) (at_scale scale b n) in let t = two_below _ _ _ left right in omega (arith, s, t)) in
    let result = judged_fits (at_scale scale a m +ℤ at_scale scale b n) (sum_size (sized d m) (sized e n)) together few in (
      result.0,
      ap₂ (λ x y. if x && y then judged (at_scale scale a m +ℤ at_scale scale b n) scale else raised OutOfRange) (in_bounds (at_scale scale a m) (most + scale) left fewer) (in_bounds (at_scale scale b n) (most + scale) right fewer) ∙ result.1,
      result.2,
    )

product_fits : (a b : ℤ) (m n d e : ℕ) → nat_abs a < 10 ^ d → nat_abs b < 10 ^ e → d + e ≤ 38 → Gives (times (Number a m) (Number b n)) (sized (d + e) (m + n))
product_fits a b m n d e h l few = judged_fits (a *ℤ b) (sized (d + e) (m + n)) (rw (abs_product a b, pow-add 10 d e) (mul-lt _ _ _ _ h l)) few

null_fits : (m : Meaning Value) (s : Size) → m ≡ Is Null → Gives m s
null_fits m s e = (Null, e, tt)

plus_fits : (s t : Size) (v w : Value) → Fits s v → Fits t w → (sum_size s t).digits ≤ 38 → Gives (plus v w) (sum_size s t)
plus_fits s t (Number a m) (Number b n) h l few =
    subst (λ k. Gives (plus (Number a k) (Number b n)) (sum_size s t)) (sym h.0)
    (subst (λ k. Gives (plus (Number a s.scale) (Number b k)) (sum_size s t)) (sym l.0) (sum_fits a b s.scale t.scale s.digits t.digits h.1 l.1 few))
plus_fits s t Null w h l few = null_fits _ _ refl
plus_fits s t (Text c) w h l few = null_fits _ _ refl
plus_fits s t (Number a m) Null h l few = null_fits _ _ refl
plus_fits s t (Number a m) (Text c) h l few = null_fits _ _ refl

times_fits : (s t : Size) (v w : Value) → Fits s v → Fits t w → s.digits + t.digits ≤ 38 → Gives (times v w) (sized (s.digits + t.digits) (s.scale + t.scale))
times_fits s t (Number a m) (Number b n) h l few =
    subst (λ k. Gives (times (Number a k) (Number b n)) (sized (s.digits + t.digits) (s.scale + t.scale))) (sym h.0)
    (subst (λ k. Gives (times (Number a s.scale) (Number b k)) (sized (s.digits + t.digits) (s.scale + t.scale))) (sym l.0) (product_fits a b s.scale t.scale s.digits t.digits h.1 l.1 few))
times_fits s t Null w h l few = null_fits _ _ refl
times_fits s t (Text c) w h l few = null_fits _ _ refl
times_fits s t (Number a m) Null h l few = null_fits _ _ refl
times_fits s t (Number a m) (Text c) h l few = null_fits _ _ refl

negative_fits : (s : Size) (v : Value) → Fits s v → Fits s (negative v)
negative_fits s (Number u m) h = (h.0, rw (abs_neg u) h.1)
negative_fits s Null h = tt
negative_fits s (Text c) h = tt

operation_fits : (operator : Operator) (s t : Size) (v w : Value) → Fits s v → Fits t w → is_division operator ≡ false → (joined_size operator s t).digits ≤ 38 → Gives (operation operator v w) (joined_size operator s t)
operation_fits b.Plus s t v w h l d few = plus_fits s t v w h l few
operation_fits b.Minus s t v w h l d few = plus_fits s t v (negative w) h (negative_fits t w l) few
operation_fits b.Times s t v w h l d few = times_fits s t v w h l few
operation_fits b.Over s t v w h l d few = cc

-- ---- expressions

small : (u : ℤ) (k n : ℕ) → neg_ℤ (pos k) ≤ℤ u → u <ℤ pos k → k < n → nat_abs u < n
small u k n h l m = let a = abs_below u k (omega (arith, ints, l)) h in omega (arith, a, m)

type_fits : (type : SqlType) (v : Value) → IsType type → HasType type v → Fits (type_size type) v
type_fits type Null t h = tt
type_fits type (Text c) t h = tt
type_fits Smallint (Number u s) t h = (h.0, small u (2 ^ 15) (10 ^ 5) h.1.0 h.1.1 (lit< tt))
type_fits Integer (Number u s) t h = (h.0, small u (2 ^ 31) (10 ^ 10) h.1.0 h.1.1 (lit< tt))
type_fits (Numeric p q) (Number u s) t h = h
type_fits (Char n) (Number u s) t h = absurd h.1

signed_fits : (minus : Bool) (s : Size) (v : Value) → Fits s v → Fits s (signed minus v)
signed_fits true s v h = negative_fits s v h
signed_fits false s v h = h

few_digits : (n : ℕ) → nat_lt 38 n ≡ false → n ≤ 38
few_digits n h = grind (arith, nat_tests, h)

mutual
  value_fits : (env : Environment) (e : ValueExpr) → FitsTypes env e → can_raise e ≡ false → Gives (value env e) (size e)
  value_fits env (b.Column c type) h r = (cell env.combination c, refl, type_fits type (cell env.combination c) h.0 h.1)
  value_fits env (b.Parameter n c type) h r = (cell (get_or env.outer n []) c, refl, type_fits type (cell (get_or env.outer n []) c) h.0 h.1)
  value_fits env (b.Numeral units digits scale) h r = (Number (pos units) scale, refl, (refl, h))
  value_fits env (b.String codes) h r = (Text codes, refl, tt)
  value_fits env (b.Signed minus e) h r = let g = value_fits env e h r in (signed minus g.0, ap (on_one (signed minus)) g.1, signed_fits minus (size e) g.0 g.2)
  value_fits env (b.Chain first others) h r =
      let p = or_parts (can_raise first) (chain_can_raise (size first) others) r in
      chain_fits env (value env first) (size first) others (value_fits env first h.0 p.0) h.1 p.1
  value_fits env (b.AggregateValue n type) h r = absurd (true≢false r)
  value_fits env (b.Subquery n type) h r = absurd (true≢false r)

  chain_fits : (env : Environment) (left : Meaning Value) (s : Size) (others : Operands) → Gives left s → AllFitTypes env others → chain_can_raise s others ≡ false → Gives (chained env left others) (chain_size s others)
  chain_fits env left s NoOperand g h r = g
  chain_fits env left s (Operand operator e others) g h r =
      let joined : Size = joined_size operator s (size e) in
      let most = or_parts (is_division operator || can_raise e || nat_lt 38 joined.digits) (chain_can_raise joined others) r in
      let some = or_parts (is_division operator || can_raise e) (nat_lt 38 joined.digits) most.0 in
      let two = or_parts (is_division operator) (can_raise e) some.0 in
      let k = value_fits env e h.0 two.1 in
      let m = operation_fits operator s (size e) g.0 k.0 g.2 k.2 two.0 (few_digits joined.digits some.1) in
      chain_fits env (and_then_two (operation operator) left (value env e)) joined others (m.0, ap₂ (and_then_two (operation operator)) g.1 k.1 ∙ m.1, m.2) h.1 most.1

pub what_cannot_raise_does_not : WhatCannotRaiseDoesNot
what_cannot_raise_does_not env e h r = let g = value_fits env e h r in (g.0, g.1)

-- ---- conditions

abbrev GivesValue : Environment → ValueExpr → Type 0
GivesValue env e = (v : Value) × (value env e ≡ Is v)

abbrev GivesTruth : Environment → Condition → Type 0
GivesTruth env c = (t : Truth) × (truth env c ≡ Is t)

all_give : (env : Environment) (es : List ValueExpr) → AllByRecursion (FitsTypes env) es → list_any can_raise es ≡ false → AllByRecursion (GivesValue env) es
all_give env [] h r = tt
all_give env (e ∷ es) h r =
    let p = or_parts (can_raise e) (list_any can_raise es) r in
    let g = value_fits env e h.0 p.0 in
    ((g.0, g.1), all_give env es h.1 p.1)

all_split : {X : Type 0} (P : X → Type 0) (xs ys : List X) → AllByRecursion P (xs ++ ys) → AllByRecursion P xs × AllByRecursion P ys
all_split P [] ys h = (tt, h)
all_split P (x ∷ xs) ys h = let s = all_split P xs ys h.1 in ((h.0, s.0), s.1)

members_give : (env : Environment) (members : List (Option ValueExpr)) → AllByRecursion (GivesValue env) (member_values members) → (vs : List Value) × (in_order (map (member env) members) ≡ Is vs)
members_give env [] h = ([], refl)
members_give env (None ∷ members) h = let g = members_give env members h in (Null ∷ g.0, ap (on_two ◌∷◌ (Is Null)) g.1)
members_give env (Some e ∷ members) h =
    let g = members_give env members h.1 in
    (h.0.0 ∷ g.0, ap₂ (on_two ◌∷◌) h.0.1 g.1)

none_joined : {X : Type 0} (xs ys : List X) → not (is_empty (xs ++ ys)) ≡ false → (not (is_empty xs) ≡ false) × (not (is_empty ys) ≡ false)
none_joined [] ys h = (refl, h)
none_joined (x ∷ xs) ys h = absurd (true≢false h)

two_give : {X Y Z : Type 0} (f : X → Y → Z) (m : Meaning X) (n : Meaning Y) (x : X) (y : Y) → m ≡ Is x → n ≡ Is y → on_two f m n ≡ Is (f x y)
two_give f m n x y h l = ap₂ (on_two f) h l

mutual
  truth_given : (env : Environment) (c : Condition) → AllByRecursion (GivesValue env) (values_of c) → not (is_empty (tested_blocks c)) ≡ false → GivesTruth env c
  truth_given env (b.Compare op x y) h r = (compared op h.0.0 h.1.0.0, ap₂ (on_two (compared op)) h.0.1 h.1.0.1)
  truth_given env (b.Quantified op q e n) h r = absurd (true≢false r)
  truth_given env (b.IsNull negated e) h r = (unless negated (known (is_null h.0.0)), ap (on_one (λ v. unless negated (known (is_null v)))) h.0.1)
  truth_given env (b.Between negated e low high) h r =
      let first = two_give (compared GreaterOrEquals) (value env e) (value env low) h.0.0 h.1.0.0 h.0.1 h.1.0.1 in
      let second = two_give (compared LessOrEquals) (value env e) (value env high) h.0.0 h.1.1.0.0 h.0.1 h.1.1.0.1 in
      (unless negated (and (compared GreaterOrEquals h.0.0 h.1.0.0) (compared LessOrEquals h.0.0 h.1.1.0.0)), ap₂ (λ a c. on_one (unless negated) (on_two and a c)) first second)
  truth_given env (b.Like negated e pattern) h r = (unless negated (like pattern h.0.0), ap (on_one (λ v. unless negated (like pattern v))) h.0.1)
  truth_given env (b.InList negated e members) h r =
      let g = members_give env members h.1 in
      (unless negated (compared_with_any Equals h.0.0 g.0), ap₂ (λ a c. on_one (unless negated) (on_two (compared_with_any Equals) a c)) h.0.1 g.1)
  truth_given env (b.InQuery negated e n) h r = absurd (true≢false r)
  truth_given env (b.Exists n) h r = absurd (true≢false r)
  truth_given env (b.Not c) h r = let g = truth_given env c h r in (opposite g.0, ap (on_one opposite) g.1)
  truth_given env (b.And parts) h r = let g = truths_given env parts h r in (all_true g.0, ap (on_one all_true) g.1)
  truth_given env (b.Or parts) h r = let g = truths_given env parts h r in (any_true g.0, ap (on_one any_true) g.1)

  truths_given : (env : Environment) (parts : Conditions) → AllByRecursion (GivesValue env) (values_of_parts parts) → not (is_empty (tested_blocks_of_parts parts)) ≡ false → (ts : List Truth) × (truths env parts ≡ Is ts)
  truths_given env b.NoPart h r = ([], refl)
  truths_given env (b.Part part others) h r =
      let s = all_split (GivesValue env) (values_of part) (values_of_parts others) h in
      let p = none_joined (tested_blocks part) (tested_blocks_of_parts others) r in
      let g = truth_given env part s.0 p.0 in
      let k = truths_given env others s.1 p.1 in
      (g.0 ∷ k.0, ap₂ (on_two ◌∷◌) g.1 k.1)

pub conditions_that_cannot_raise_do_not : ConditionsThatCannotRaiseDoNot
conditions_that_cannot_raise_do_not env c h r =
    let p = or_parts (not (is_empty (tested_blocks c))) (list_any can_raise (values_of c)) r in
    truth_given env c (all_give env (values_of c) h p.1) p.0
