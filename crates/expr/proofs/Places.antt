-- Values on many rows: what a loop over places keeps, and the word of the rows on which a test passes.
use Rattle.std.proofs.Common.{◌≡◌, ◌≢◌, ◌∙◌, refl, sym, ap, ap₂, subst, ℕ, zero, suc, ◌+◌, ◌-◌, ◌*◌, ◌^◌, ◌<◌, ◌≤◌, List, ◌∷◌, length, max, get_or, set, Bool, true, false, cond, map, Option, below_more, arith, Some, None, []}
use Rattle.std.specs.Prelude.{ℤ, pos, neg_ℤ, ◌+ℤ◌, ◌-ℤ◌, ◌*ℤ◌, FitsSigned, ◌&&◌, ◌||◌, bit_and, bit_or, option_map}
use Rattle.std.specs.Int.{from_bool, w64}
use Rattle.std.specs.List.{range_with_len}
use Rattle.std.proofs.lemmas.List.{get_or-set_other, get_or-set_same}
use Rattle.std.proofs.lemmas.Nat.{and_block, or_block}
use Rattle.std.specs.declared.cmp.Ordering.{Ordering}
use Rattle.std.specs.declared.cmp.Ordering.TheVariants.{Less, Equal, Greater}
use Rattle.std.proofs.Math.Nat.{pow-suc}
use Rattle.definitions.specs.Arithmetic.{Meaning, Is, minus, plus, times}
use Rattle.definitions.specs.Scanning.{word_of}
use Rattle.definitions.specs.Truth.{Truth, False, Unknown, True, agrees, and, compared, is_true, known, known_or_unknown, opposite, unless}
use Rattle.columns.specs.Cells.{number_or_null}
use Rattle.definitions.specs.Value.{SqlType, Value, Number, compare, scale_of}
use Rattle.expr.specs.Vectors.{of_units}
use Rattle.definitions.specs.Statement.{ComparisonOperator, GreaterOrEquals, GreaterThan, LessOrEquals, LessThan}
use Rattle.definitions.specs.Queries.Evaluation.{on_one, on_two}
use Rattle.expr.proofs.Shorts.{in_bounds, judged_short, neg_by, one_of, same_size, size_fits}

-- what holds of each place before one holds of each up to it, once the element there is one of which it holds
pub one_more_place : {X : Type 0} (P : ℕ → X → Type 0) (xs : List X) (i : ℕ) (x d : X) → i < length xs → ((k : ℕ) → k < i → P k (get_or xs k d)) → P i x → (k : ℕ) → k < i + 1 → P k (get_or (set xs i x) k d)
one_more_place P xs i x d within before here =
    below_more (λ k. P k (get_or (set xs i x) k d)) i
    (λ k less. let other : k ≢ i = omega (arith, less) in subst (P k) (sym (get_or-set_other xs i k x d other)) (before k less))
    (subst (P i) (sym (get_or-set_same xs i x d within)) here)

-- the places from one on are as they were, and stay so behind it
pub rest_unchanged : {X : Type 0} (xs ys : List X) (i : ℕ) (x d : X) → ((k : ℕ) → i ≤ k → get_or xs k d ≡ get_or ys k d) → (k : ℕ) → i + 1 ≤ k → get_or (set xs i x) k d ≡ get_or ys k d
rest_unchanged xs ys i x d h k beyond =
    let other : k ≢ i = omega (arith, beyond) in
    get_or-set_other xs i k x d other ∙ h k (omega (arith, beyond))

-- what a column of numbers has in a row, by its units
pub column_units : (type : SqlType) (units : Option ℤ) → of_units (scale_of type) units ≡ number_or_null type units
column_units type None = refl
column_units type (Some u) = refl

-- ---- words

-- tests of the places from one on, and of the rows from another on, that tell the same
pub rows_alike : (f g : ℕ → Bool) (first place count : ℕ) → ((k : ℕ) → k < count → f (first + k) ≡ g (place + k)) → map f (range_with_len first count) ≡ map g (range_with_len place count)
rows_alike f g first place zero h = refl
rows_alike f g first place (suc count) h =
    let here : f first ≡ g place = ap f (omega arith) ∙ h 0 (omega arith) ∙ ap g (omega arith) in
    ap₂ (λ b bs. b ∷ bs) here (rows_alike f g (first + 1) (place + 1) count (λ k less. ap f (omega arith) ∙ h (k + 1) (omega (arith, less)) ∙ ap g (omega arith)))

flag_number : (f : Bool) → from_bool f ≡ cond f 1 0
flag_number true = refl
flag_number false = refl

flag_most : (f : Bool) → from_bool f ≤ 1
flag_most true = omega arith
flag_most false = omega arith

-- a row is put before those behind it
pub row_before : (test : ℕ → Bool) (place count word : ℕ) (flag : Bool) → place < count → word ≡ word_of (map test (range_with_len (place + 1) (count - (place + 1)))) → flag ≡ test place
    → 2 * word + from_bool flag ≡ word_of (map test (range_with_len place (count - place)))
row_before test place count word flag less is same =
    let long : count - place ≡ suc (count - (place + 1)) = omega (arith, less) in
    let met : from_bool flag ≡ cond (test place) 1 0 = flag_number flag ∙ ap (λ b. cond b 1 0) same in
    rw long (omega (arith, is, met))

pub before_fits : (place count word : ℕ) (flag : Bool) → place < count → word < 2 ^ (count - (place + 1)) → 2 * word + from_bool flag < 2 ^ (count - place)
before_fits place count word flag less fits =
    let long : count - place ≡ suc (count - (place + 1)) = omega (arith, less) in
    rw long (omega (arith, fits, flag_most flag, pow-suc 2 (count - (place + 1))))

-- ---- what operators make of units

module _ (a b x y s : ℤ) (m n scale : ℕ) (left : x ≡ a *ℤ pos (10 ^ (n - m))) (right : y ≡ b *ℤ pos (10 ^ (m - n))) (at : scale ≡ max m n) (fx : FitsSigned w64 x) (fy : FitsSigned w64 y) (fs : FitsSigned w64 s) where
  up : x ≡ a *ℤ pos (10 ^ (max m n - m))
  up = let e : n - m ≡ max m n - m = omega arith in left ∙ ap (λ k. a *ℤ pos (10 ^ k)) e

  down : y ≡ b *ℤ pos (10 ^ (max m n - n))
  down = let e : m - n ≡ max m n - n = omega arith in right ∙ ap (λ k. b *ℤ pos (10 ^ k)) e

  pub plus_units : s ≡ x +ℤ y → plus (Number a m) (Number b n) ≡ Is (Number s scale)
  plus_units e = rw (← up, ← down, in_bounds x (size_fits x fx), in_bounds y (size_fits y fy), ← e, ← at) (judged_short s scale fs)

  pub minus_units : s ≡ x -ℤ y → minus (Number a m) (Number b n) ≡ Is (Number s scale)
  minus_units e = rw (neg_by b (10 ^ (max m n - n)), ← up, ← down, in_bounds x (size_fits x fx), in_bounds (neg_ℤ y) (rw (same_size y) (size_fits y fy)), ← e, ← at) (judged_short s scale fs)

-- a product of numbers that stand as they are
pub times_units : (a b x y s : ℤ) (m n scale : ℕ) → x ≡ a *ℤ pos 1 → y ≡ b *ℤ pos 1 → scale ≡ m + n → FitsSigned w64 s → s ≡ x *ℤ y → times (Number a m) (Number b n) ≡ Is (Number s scale)
times_units a b x y s m n scale left right at fs e =
    let same : s ≡ a *ℤ b = e ∙ ap₂ (λ u v. u *ℤ v) (left ∙ one_of a) (right ∙ one_of b) in
    rw (← same, ← at) (judged_short s scale fs)

-- ---- comparisons

-- a comparison of two values that are told
pub compared_told : (op : ComparisonOperator) (k l : Meaning Value) (v w : Value) → k ≡ Is v → l ≡ Is w → on_two (compared op) k l ≡ Is (compared op v w)
compared_told op k l v w e f = rw (e, f) refl

pub known_true : (b : Bool) → b ≡ is_true (known b)
known_true true = refl
known_true false = refl

-- ---- BETWEEN

pub both_true : (t u : Truth) → is_true (and t u) ≡ (is_true t && is_true u)
both_true False u = refl
both_true Unknown False = refl
both_true Unknown Unknown = refl
both_true Unknown True = refl
both_true True u = refl

one_false : (t u : Truth) → is_true (opposite (and t u)) ≡ (is_true (opposite t) || is_true (opposite u))
one_false False u = refl
one_false Unknown False = refl
one_false Unknown Unknown = refl
one_false Unknown True = refl
one_false True u = refl

not_from : (o : Option Ordering) → is_true (opposite (known_or_unknown (option_map (agrees GreaterOrEquals) o))) ≡ is_true (known_or_unknown (option_map (agrees LessThan) o))
not_from None = refl
not_from (Some Less) = refl
not_from (Some Equal) = refl
not_from (Some Greater) = refl

not_to : (o : Option Ordering) → is_true (opposite (known_or_unknown (option_map (agrees LessOrEquals) o))) ≡ is_true (known_or_unknown (option_map (agrees GreaterThan) o))
not_to None = refl
not_to (Some Less) = refl
not_to (Some Equal) = refl
not_to (Some Greater) = refl

pub between_told : (negated : Bool) (k l m : Meaning Value) (x y z : Value) → k ≡ Is x → l ≡ Is y → m ≡ Is z
    → on_one (unless negated) (on_two and (on_two (compared GreaterOrEquals) k l) (on_two (compared LessOrEquals) k m)) ≡ Is (unless negated (and (compared GreaterOrEquals x y) (compared LessOrEquals x z)))
between_told negated k l m x y z e f h = rw (e, f, h) refl

pub inside_true : (x y z : Value) → is_true (unless false (and (compared GreaterOrEquals x y) (compared LessOrEquals x z))) ≡ (is_true (compared GreaterOrEquals x y) && is_true (compared LessOrEquals x z))
inside_true x y z = both_true (compared GreaterOrEquals x y) (compared LessOrEquals x z)

pub outside_true : (x y z : Value) → is_true (unless true (and (compared GreaterOrEquals x y) (compared LessOrEquals x z))) ≡ (is_true (compared LessThan x y) || is_true (compared GreaterThan x z))
outside_true x y z = one_false (compared GreaterOrEquals x y) (compared LessOrEquals x z) ∙ ap₂ (λ b c. b || c) (not_from (compare x y)) (not_to (compare x z))

-- ---- words put together

below_two : (f : Bool) → cond f 1 0 < 2 ^ 1
below_two true = omega arith
below_two false = omega arith

and_bits : (a b : Bool) → bit_and (cond a 1 0) (cond b 1 0) ≡ cond (a && b) 1 0
and_bits true true = refl
and_bits true false = refl
and_bits false true = refl
and_bits false false = refl

or_bits : (a b : Bool) → bit_or (cond a 1 0) (cond b 1 0) ≡ cond (a || b) 1 0
or_bits true true = refl
or_bits true false = refl
or_bits false true = refl
or_bits false false = refl

module _ (a b : Bool) (m n : ℕ) where
  left_bits : cond a 1 0 + 2 * m ≡ m * 2 ^ 1 + cond a 1 0
  left_bits = omega arith

  right_bits : cond b 1 0 + 2 * n ≡ n * 2 ^ 1 + cond b 1 0
  right_bits = omega arith

  and_flags : bit_and (cond a 1 0 + 2 * m) (cond b 1 0 + 2 * n) ≡ cond (a && b) 1 0 + 2 * bit_and m n
  and_flags = rw (left_bits, right_bits, and_block 1 m n (cond a 1 0) (cond b 1 0) (below_two a) (below_two b), and_bits a b) (omega arith)

  or_flags : bit_or (cond a 1 0 + 2 * m) (cond b 1 0 + 2 * n) ≡ cond (a || b) 1 0 + 2 * bit_or m n
  or_flags = rw (left_bits, right_bits, or_block 1 m n (cond a 1 0) (cond b 1 0) (below_two a) (below_two b), or_bits a b) (omega arith)

pub word_of-and : (p q : ℕ → Bool) (xs : List ℕ) → bit_and (word_of (map p xs)) (word_of (map q xs)) ≡ word_of (map (λ x. p x && q x) xs)
word_of-and p q [] = refl
word_of-and p q (x ∷ xs) = and_flags (p x) (q x) (word_of (map p xs)) (word_of (map q xs)) ∙ ap (λ n. cond (p x && q x) 1 0 + 2 * n) (word_of-and p q xs)

pub word_of-or : (p q : ℕ → Bool) (xs : List ℕ) → bit_or (word_of (map p xs)) (word_of (map q xs)) ≡ word_of (map (λ x. p x || q x) xs)
word_of-or p q [] = refl
word_of-or p q (x ∷ xs) = or_flags (p x) (q x) (word_of (map p xs)) (word_of (map q xs)) ∙ ap (λ n. cond (p x || q x) 1 0 + 2 * n) (word_of-or p q xs)
