-- Flags of units, and numbers that are equal to one of some.
use Rattle.std.proofs.Common.{◌≡◌, ◌∙◌, refl, sym, ap, ap₂, ℕ, ◌+◌, ◌^◌, ◌<◌, zero, suc, List, [], ◌∷◌, ◌++◌, Bool, true, false, length, replicate, set, get_or, take, arith}
use Rattle.std.specs.Prelude.{ℤ, pos, negsuc, ◌-ℤ◌, ◌<ℤ◌}
use Rattle.std.specs.Cmp.{int_ranks}
use Rattle.std.specs.Ordering.{int_cmp, is_eq, MatchOrdering}
use Rattle.std.specs.declared.cmp.Ordering.{Ordering}
use Rattle.std.specs.declared.cmp.Ordering.TheVariants.{Less, Equal, Greater}
use Rattle.std.proofs.lemmas.Int.{ints}
use Rattle.std.proofs.lemmas.List.{get_or-set_other, get_or-set_same, take_more}
use Rattle.definitions.specs.Statement.{ComparisonOperator, Equals}
use Rattle.definitions.specs.Truth.{compared, compared_with_any, known, or, False, True, Truth, Unknown}
use Rattle.definitions.specs.Value.{Value, Number}
use Rattle.definitions.proofs.Ranking.{scaled, power_is_positive}
use Rattle.told_tests.specs.UnitSets.{flag_at, IsPlaceOf}

-- ---- truth values

or_false : (t : Truth) → or t False ≡ t
or_false False = refl
or_false Unknown = refl
or_false True = refl

or_true : (t : Truth) → or t True ≡ True
or_true False = refl
or_true Unknown = refl
or_true True = refl

or_assoc : (t u v : Truth) → or t (or u v) ≡ or (or t u) v
or_assoc False u v = refl
or_assoc True u v = refl
or_assoc Unknown False v = refl
or_assoc Unknown True v = refl
or_assoc Unknown Unknown False = refl
or_assoc Unknown Unknown Unknown = refl
or_assoc Unknown Unknown True = refl

any_more : (op : ComparisonOperator) (v : Value) (values : List Value) (w : Value) → compared_with_any op v (values ++ w ∷ []) ≡ or (compared_with_any op v values) (compared op v w)
any_more op v [] w = or_false (compared op v w)
any_more op v (x ∷ xs) w = ap (or (compared op v x)) (any_more op v xs w) ∙ or_assoc (compared op v x) (compared_with_any op v xs) (compared op v w)

-- numbers of one scale are equal where their units are
same_scale : (a b : ℤ) (scale : ℕ) → compared Equals (Number a scale) (Number b scale) ≡ known (is_eq (int_cmp a b))
same_scale a b scale = ap (λ o. known (is_eq o)) (sym (scaled a b (10 ^ scale) (power_is_positive scale)))

-- ---- flags

none_set : (count : ℕ) (z : ℤ) → flag_at (replicate count false) z ≡ false
none_set count (negsuc n) = refl
none_set count (pos n) = none_of count n
  where
    none_of : (count n : ℕ) → get_or (replicate count false) n false ≡ false
    none_of zero n = refl
    none_of (suc count) zero = refl
    none_of (suc count) (suc n) = none_of count n

pub all_clear : (n m : ℕ) (before flags : List Bool) → before ≡ [] → flags ≡ take n before ++ replicate m false → (z : ℤ) → flag_at flags z ≡ false
all_clear n m before flags none is z = ap (λ (fs : List Bool). flag_at fs z) (is ∙ ap (λ (fs : List Bool). take n fs ++ replicate m false) none ∙ ap (λ (fs : List Bool). fs ++ replicate m false) (take_none n)) ∙ none_set m z
  where
    take_none : (n : ℕ) → take {A = Bool} n [] ≡ []
    take_none zero = refl
    take_none (suc n) = refl

pub nowhere : (flags : List Bool) (z : ℤ) → ((n : ℕ) → z ≡ pos n → ⊥) → flag_at flags z ≡ false
nowhere flags (pos n) none = absurd (none n refl)
nowhere flags (negsuc n) none = refl

flag_other : (flags : List Bool) (k : ℕ) (z : ℤ) → (z ≡ pos k → ⊥) → flag_at (set flags k true) z ≡ flag_at flags z
flag_other flags k (pos n) apart = get_or-set_other flags k n true false (λ e. apart (ap pos e))
flag_other flags k (negsuc n) apart = refl

module _ (flags : List Bool) (k : ℕ) (within : k < length flags) (least unit own : ℤ) (place : own -ℤ least ≡ pos k) where
  further : (unit -ℤ least ≡ pos k → ⊥) → known (flag_at (set flags k true) (unit -ℤ least)) ≡ or (known (flag_at flags (unit -ℤ least))) False
  further apart = ap known (flag_other flags k (unit -ℤ least) apart) ∙ sym (or_false (known (flag_at flags (unit -ℤ least))))

  by_order : (o : Ordering) → MatchOrdering o (unit <ℤ own) (unit ≡ own) (own <ℤ unit) → known (flag_at (set flags k true) (unit -ℤ least)) ≡ or (known (flag_at flags (unit -ℤ least))) (known (is_eq o))
  by_order Less l = further (λ e. absurd (omega (arith, ints, l, e, place)))
  by_order Greater l = further (λ e. absurd (omega (arith, ints, l, e, place)))
  by_order Equal e =
      ap (λ z. known (flag_at (set flags k true) z)) (ap (λ u. u -ℤ least) e ∙ place) ∙ ap known (get_or-set_same flags k true false within)
      ∙ sym (or_true (known (flag_at flags (unit -ℤ least))))

-- one more value has its flag set
pub one_more_flag : (scale : ℕ) (values : List Value) (i : ℕ) (d : Value) → i < length values → (flags : List Bool) (k : ℕ) → k < length flags → (least : ℤ) → IsPlaceOf scale least (get_or values i d) k
    → ((unit : ℤ) → compared_with_any Equals (Number unit scale) (take i values) ≡ known (flag_at flags (unit -ℤ least)))
    → (unit : ℤ) → compared_with_any Equals (Number unit scale) (take (i + 1) values) ≡ known (flag_at (set flags k true) (unit -ℤ least))
one_more_flag scale values i d inside flags k within least (own, is, place) before unit =
    ap (compared_with_any Equals (Number unit scale)) (take_more values i d inside)
    ∙ any_more Equals (Number unit scale) (take i values) (get_or values i d)
    ∙ ap₂ or (before unit) (ap (compared Equals (Number unit scale)) is ∙ same_scale unit own scale)
    ∙ sym (by_order flags k within least unit own place (int_cmp unit own) (int_ranks unit own))
