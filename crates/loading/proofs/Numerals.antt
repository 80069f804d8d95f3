-- Numerals: their digits, their points, and their signs.
use Rattle.std.proofs.Common.{◌≡◌, ◌∙◌, refl, sym, ap, ℕ, zero, suc, ◌+◌, ◌-◌, ◌*◌, ◌^◌, ◌<◌, ◌≤◌, List, [], ◌∷◌, ◌++◌, Option, Some, None, Bool, true, false, cond, leb, ltb, length, take, drop, get_or, filter, arith}
use Rattle.std.specs.Prelude.{◌||◌, ◌&&◌, ◌==◌, unwrap_or, option_map, IsTrue, pos}
use Rattle.std.proofs.lemmas.List.{take_all, drop_more}
use Rattle.std.proofs.lemmas.Nat.{pow-add}
use Rattle.std.specs.List.{list_all, list_any, position_from}
use Rattle.std.specs.Str.Parse.{digits_value, digits_value_after}
use Rattle.std.specs.Char.{digit_value}
use Rattle.std.proofs.Math.Nat.{mul-le-mul_right, le-mul_of_pos_right}
use Rattle.std.proofs.lemmas.Bool.Decides.{nat_tests}
use Rattle.definitions.specs.Characters.{is_digit}
use Rattle.definitions.specs.Lexing.{is_numeral, digits_of, behind_point}
use Rattle.definitions.proofs.Ranking.{power_is_positive}
use Rattle.loading.proofs.Scaling.{power_is_within}
use Rattle.definitions.specs.Value.{Value, Number}
use Rattle.definitions.specs.Loading.{IsSign, WritesNumber, negated}
use Rattle.loading.specs.Fields.{IsShortNumeral, WritesShort}
use Rattle.loading.specs.declared.written_number.WrittenNumber.{WrittenNumber}

true_if_digits : (n : ℕ) → ltb 0 (suc n) ≡ true
true_if_digits n = grind (arith, nat_tests)

-- some byte is a digit where there are digits
any_from_count : (xs : List ℕ) → ltb 0 (length (filter is_digit xs)) ≡ list_any is_digit xs
any_from_count [] = refl
any_from_count (x ∷ xs) = elim (is_digit x) as (λ b. ltb 0 (length (cond b (x ∷ filter is_digit xs) (filter is_digit xs))) ≡ b || list_any is_digit xs) [ true ↦ true_if_digits _ | false ↦ any_from_count xs ]

-- what is tested of a numeral in turn
pub first_false : (xs : List ℕ) (bytes value : Bool) → bytes ≡ list_all (λ c. is_digit c || (c == 46)) xs → bytes ≡ false → value ≡ false
    → value ≡ (list_all (λ c. is_digit c || (c == 46)) xs && list_any is_digit xs)
first_false xs bytes value h e i = let k : list_all (λ c. is_digit c || (c == 46)) xs ≡ false = sym h ∙ e in rw (k, i) refl

pub first_true : (xs : List ℕ) (bytes value : Bool) (digits : ℕ) → bytes ≡ list_all (λ c. is_digit c || (c == 46)) xs → bytes ≡ true → digits ≡ length (digits_of xs) → value ≡ ltb 0 digits
    → value ≡ (list_all (λ c. is_digit c || (c == 46)) xs && list_any is_digit xs)
first_true xs bytes value digits h e k i =
    let m : list_all (λ c. is_digit c || (c == 46)) xs ≡ true = sym h ∙ e in
    rw m (i ∙ ap (λ n. ltb 0 n) k ∙ any_from_count xs)

pub then_points : (xs : List ℕ) (value : Bool) (points : ℕ) → value ≡ (list_all (λ c. is_digit c || (c == 46)) xs && list_any is_digit xs) → value ≡ true → points ≡ length (filter (λ c. c == 46) xs)
    → leb points 1 ≡ is_numeral xs
then_points xs value points h e k = let m : (list_all (λ c. is_digit c || (c == 46)) xs && list_any is_digit xs) ≡ true = sym h ∙ e in rw m (ap (λ n. leb n 1) k)

pub else_none : (xs : List ℕ) (value : Bool) → value ≡ (list_all (λ c. is_digit c || (c == 46)) xs && list_any is_digit xs) → value ≡ false → value ≡ is_numeral xs
else_none xs value h e = let m : (list_all (λ c. is_digit c || (c == 46)) xs && list_any is_digit xs) ≡ false = sym h ∙ e in rw m e

-- the digits behind the point
point_at : (xs : List ℕ) (i n : ℕ) → length xs + i ≡ n → behind_point xs ≡ option_map (λ at. n - 1 - at) (position_from (λ c. c == 46) i xs)
point_at [] i n h = refl
point_at (x ∷ xs) i n h =
    let here : length xs ≡ n - 1 - i = omega (arith, h) in
    elim (x == 46) as (λ b. cond b (Some (length xs)) (behind_point xs) ≡ option_map (λ at. n - 1 - at) (cond b (Some i) (position_from (λ c. c == 46) (i + 1) xs)))
    [ true ↦ ap Some here | false ↦ point_at xs (i + 1) n (omega (arith, h)) ]

pub behind_some : (xs : List ℕ) (p : Option ℕ) (at : ℕ) → p ≡ position_from (λ c. c == 46) 0 xs → p ≡ Some at → length xs - 1 - at ≡ unwrap_or (behind_point xs) 0
behind_some xs p at h e =
    let k : behind_point xs ≡ Some (length xs - 1 - at) = point_at xs 0 (length xs) (omega arith) ∙ ap (option_map (λ at. length xs - 1 - at)) (sym h ∙ e) in
    ap (λ o. unwrap_or o 0) (sym k)

pub behind_none : (xs : List ℕ) (p : Option ℕ) → p ≡ position_from (λ c. c == 46) 0 xs → p ≡ None → 0 ≡ unwrap_or (behind_point xs) 0
behind_none xs p h e =
    let k : behind_point xs ≡ None = point_at xs 0 (length xs) (omega arith) ∙ ap (option_map (λ at. length xs - 1 - at)) (sym h ∙ e) in
    ap (λ o. unwrap_or o 0) (sym k)

-- each byte of a numeral is a digit or a point
one_counted : (d p r : Bool) (x n : ℕ) (points digits : List ℕ) → ((d || p) && r) ≡ true → (r ≡ true → n ≤ length points + length digits)
    → suc n ≤ length (cond p (x ∷ points) points) + length (cond d (x ∷ digits) digits)
one_counted true true r x n points digits h k = omega (arith, k h)
one_counted true false r x n points digits h k = omega (arith, k h)
one_counted false true r x n points digits h k = omega (arith, k h)
one_counted false false r x n points digits h k = absurd cc

points_and_digits : (xs : List ℕ) → list_all (λ c. is_digit c || (c == 46)) xs ≡ true → length xs ≤ length (filter (λ c. c == 46) xs) + length (digits_of xs)
points_and_digits [] h = omega arith
points_and_digits (x ∷ xs) h = one_counted (is_digit x) (x == 46) _ x (length xs) (filter (λ c. c == 46) xs) (digits_of xs) h (points_and_digits xs)

-- the sign that a field begins with
pub sign_first : (c : ℕ) (field : List ℕ) → 1 ≤ length field → get_or field 0 0 ≡ c → field ≡ (c ∷ []) ++ take (length field - 1) (drop 1 field)
sign_first c [] h e = absurd (omega (arith, h))
sign_first c (x ∷ field) h e =
    let n : suc (length field) - 1 ≡ length field = omega arith in
    rw (e, n, take_all (length field) field (omega arith)) refl

-- a numeral's scale is at most the number of its digits
behind_short : (xs : List ℕ) → unwrap_or (behind_point xs) 0 ≤ length xs - 1
behind_short [] = omega arith
behind_short (x ∷ xs) =
    let rest : unwrap_or (behind_point xs) 0 ≤ suc (length xs) - 1 = omega (arith, behind_short xs) in
    elim (x == 46) as (λ b. unwrap_or (cond b (Some (length xs)) (behind_point xs)) 0 ≤ suc (length xs) - 1) [ true ↦ omega arith | false ↦ rest ]

pub both_true : (a b : Bool) → (a && b) ≡ true → (a ≡ true) × (b ≡ true)
both_true true true h = (refl, refl)
both_true true false h = absurd cc
both_true false b h = absurd cc

at_most : (n m : ℕ) → leb n m ≡ true → n ≤ m
at_most n m h = grind (arith, nat_tests)

pub behind_within : (xs : List ℕ) → IsTrue (is_numeral xs) → unwrap_or (behind_point xs) 0 ≤ length (digits_of xs)
behind_within xs h =
    let (tests, points) = both_true (list_all (λ c. is_digit c || (c == 46)) xs && list_any is_digit xs) (leb (length (filter (λ c. c == 46) xs)) 1) h in
    let bytes = (both_true (list_all (λ c. is_digit c || (c == 46)) xs) (list_any is_digit xs) tests).0 in
    omega (arith, behind_short xs, points_and_digits xs bytes, at_most _ _ points)

-- the digits behind a place
digits_here : (xs : List ℕ) (i : ℕ) → i < length xs → is_digit (get_or xs i 0) ≡ true → digits_of (drop i xs) ≡ get_or xs i 0 ∷ digits_of (drop (i + 1) xs)
digits_here xs i h d = rw (drop_more xs i 0 h, d) refl

no_digit_here : (xs : List ℕ) (i : ℕ) → i < length xs → is_digit (get_or xs i 0) ≡ false → digits_of (drop i xs) ≡ digits_of (drop (i + 1) xs)
no_digit_here xs i h d = rw (drop_more xs i 0 h, d) refl

digit_valued : (c : ℕ) → is_digit c ≡ true → (digit_value c ≡ c - 48) × (c - 48 ≤ 9)
digit_valued c h = (grind (arith, nat_tests), grind (arith, nat_tests))

room_further : (value next d m n : ℕ) → d ≤ 9 → next ≡ 10 * value + d → (value + 1) * 10 ^ suc m ≤ n → (next + 1) * 10 ^ m ≤ n
room_further value next d m n h e r =
    let one : suc m ≡ 1 + m = omega arith in
    let p : 10 ^ suc m ≡ 10 * 10 ^ m = ap (λ k. 10 ^ k) one ∙ pow-add 10 1 m in
    let q : (value + 1) * 10 ^ suc m ≡ (10 * (value + 1)) * 10 ^ m = ap (λ x. (value + 1) * x) p ∙ omega arith in
    let k : (next + 1) * 10 ^ m ≤ (10 * (value + 1)) * 10 ^ m = mul-le-mul_right (10 ^ m) (omega (arith, h, e)) in
    omega (arith, k, q, r)

-- the value so far, and room for the digits that are left
pub record Valued (xs : List ℕ) (i value all top : ℕ) : Type 0 where
  pub value_is : digits_value_after 10 value (digits_of (drop i xs)) ≡ all
  pub room : (value + 1) * 10 ^ length (digits_of (drop i xs)) ≤ top

pub valued_start : (xs : List ℕ) → length (digits_of xs) ≤ 38 → Valued xs 0 0 (digits_value 10 (digits_of xs)) (10 ^ 38)
valued_start xs h = record {
  value_is = refl;
  room = omega (arith, power_is_within (length (digits_of xs)) 38 h);
}

pub valued_digit : (xs : List ℕ) (i value next d all top : ℕ) → i < length xs → is_digit (get_or xs i 0) ≡ true → d ≡ get_or xs i 0 - 48 → next ≡ 10 * value + d
    → Valued xs i value all top → Valued xs (i + 1) next all top
valued_digit xs i value next d all top h t e n v =
    let here = digits_here xs i h t in
    let own = digit_valued (get_or xs i 0) t in
    let after : next ≡ value * 10 + digit_value (get_or xs i 0) = omega (arith, n, e, own.0) in
    let value' = rw here at v.value_is in
    let room' = rw here at v.room in
    record {
      value_is = rw after value';
      room = room_further value next d (length (digits_of (drop (i + 1) xs))) top (omega (arith, e, own.1)) n room';
    }

pub valued_other : (xs : List ℕ) (i value all top : ℕ) → i < length xs → is_digit (get_or xs i 0) ≡ false → Valued xs i value all top → Valued xs (i + 1) value all top
valued_other xs i value all top h t v =
    let here = no_digit_here xs i h t in
    record { value_is = rw here at v.value_is; room = rw here at v.room }

-- the next value is below the top
pub valued_fits : (xs : List ℕ) (i value all top : ℕ) → Valued xs i value all top → value < top
valued_fits xs i value all top v =
    let p : value + 1 ≤ (value + 1) * 10 ^ length (digits_of (drop i xs)) = le-mul_of_pos_right (value + 1) (power_is_positive (length (digits_of (drop i xs)))) in
    omega (arith, p, v.room)

-- a field that is split into a sign and a numeral
pub written : (field sign numeral : List ℕ) (minus : Bool) → IsSign sign minus → field ≡ sign ++ numeral → IsTrue (is_numeral numeral)
    → WritesNumber field (Number (negated minus (pos (digits_value 10 (digits_of numeral)))) (unwrap_or (behind_point numeral) 0)) (length (digits_of numeral))
written field sign numeral minus s e n = record { sign = sign; numeral = numeral; minus = minus; is = e; is_sign = s; is_numeral = n; writes = refl; count = refl }

-- what is read of such a field
pub read : (field numeral : List ℕ) (w : WrittenNumber) → ((sign : List ℕ) × IsSign sign w.negative × (field ≡ sign ++ numeral)) → IsTrue (is_numeral numeral)
    → w.digits ≡ digits_value 10 (digits_of numeral) → w.scale ≡ unwrap_or (behind_point numeral) 0 → length (digits_of numeral) ≤ 38 → w.digits < 10 ^ 38 → WritesShort field w
read field numeral w split n d s short bound =
    let (sign, is_sign, is) = split in
    let k = written field sign numeral w.negative is_sign is n in
    (length (digits_of numeral), rw (d, s) k, short, bound, omega (arith, s, behind_within numeral n, short))

pub unread : (field numeral : List ℕ) (v : Value) (digits : ℕ) → ((sign other : List ℕ) (minus : Bool) → IsSign sign minus → field ≡ sign ++ other → IsTrue (is_numeral other) → other ≡ numeral)
    → is_numeral numeral ≡ false → WritesNumber field v digits → ⊥
unread field numeral v digits only none w =
    let same : w.numeral ≡ numeral = only w.sign w.numeral w.minus w.is_sign w.is w.is_numeral in
    let clash : false ≡ true = sym none ∙ ap is_numeral (sym same) ∙ w.is_numeral in cc

-- ---- in one pass

abbrev is_point : ℕ → Bool
is_point c = c == 46

abbrev is_numeral_byte : ℕ → Bool
is_numeral_byte c = is_digit c || (c == 46)

filter_short : (p : ℕ → Bool) (xs : List ℕ) → length (filter p xs) ≤ length xs
filter_short p [] = omega arith
filter_short p (x ∷ xs) =
    let rest = filter_short p xs in
    elim (p x) as (λ b. length (cond b (x ∷ filter p xs) (filter p xs)) ≤ suc (length xs)) [ true ↦ omega (arith, rest) | false ↦ omega (arith, rest) ]

nothing_left : (xs : List ℕ) (i : ℕ) → length xs ≤ i → drop i xs ≡ []
nothing_left [] zero h = refl
nothing_left [] (suc i) h = refl
nothing_left (x ∷ xs) zero h = absurd (omega (arith, h))
nothing_left (x ∷ xs) (suc i) h = nothing_left xs i (omega (arith, h))

digit_no_point : (c : ℕ) → is_digit c ≡ true → (c == 46) ≡ false
digit_no_point c h = grind (arith, nat_tests)

-- the digits so far, and the points; all bytes so far are of numerals
pub record Scanned (xs : List ℕ) (i value points : ℕ) : Type 0 where
  pub valued : Valued xs i value (digits_value 10 (digits_of xs)) (10 ^ 18)
  pub bytes : list_all is_numeral_byte (drop i xs) ≡ list_all is_numeral_byte xs
  pub dots : points + length (filter is_point (drop i xs)) ≡ length (filter is_point xs)
  pub within : points ≤ i

pub scanned_start : (xs : List ℕ) → length xs ≤ 18 → Scanned xs 0 0 0
scanned_start xs h =
    let few : length (digits_of xs) ≤ 18 = omega (arith, h, filter_short is_digit xs) in
    record {
      valued = record { value_is = refl; room = omega (arith, power_is_within (length (digits_of xs)) 18 few) };
      bytes = refl;
      dots = omega arith;
      within = omega arith;
    }

pub scanned_digit : (xs : List ℕ) (i value next d points : ℕ) → i < length xs → is_digit (get_or xs i 0) ≡ true → d ≡ get_or xs i 0 - 48 → next ≡ 10 * value + d → Scanned xs i value points
    → Scanned xs (i + 1) next points
scanned_digit xs i value next d points h t e n s =
    let here = drop_more xs i 0 h in
    let no_point = digit_no_point (get_or xs i 0) t in
    record {
      valued = valued_digit xs i value next d _ _ h t e n s.valued;
      bytes = rw (here, t) at s.bytes;
      dots = rw (here, no_point) at s.dots;
      within = omega (arith, s.within);
    }

pub scanned_point : (xs : List ℕ) (i value points : ℕ) → i < length xs → is_digit (get_or xs i 0) ≡ false → (get_or xs i 0 == 46) ≡ true → Scanned xs i value points → Scanned xs (i + 1) value (points + 1)
scanned_point xs i value points h t p s =
    let here = drop_more xs i 0 h in
    let dots = rw (here, p) at s.dots in
    record {
      valued = valued_other xs i value _ _ h t s.valued;
      bytes = rw (here, t, p) at s.bytes;
      dots = omega (arith, dots);
      within = omega (arith, s.within);
    }

pub scanned_all : (xs : List ℕ) (i value points : ℕ) → length xs ≤ 18 → length xs ≤ i → points ≤ 1 → points < length xs → Scanned xs i value points → IsShortNumeral xs value
scanned_all xs i value points short h one some s =
    let none = nothing_left xs i h in
    let bytes : list_all is_numeral_byte xs ≡ true = sym (rw none at s.bytes) in
    let dots : points + 0 ≡ length (filter is_point xs) = rw none at s.dots in
    let digits : 0 < length (digits_of xs) = let both = points_and_digits xs bytes in omega (arith, both, dots, some) in
    let any : list_any is_digit xs ≡ true = sym (any_from_count xs) ∙ grind (arith, nat_tests) in
    let few : leb (length (filter is_point xs)) 1 ≡ true = let is : length (filter is_point xs) ≤ 1 = omega (arith, dots, one) in grind (arith, nat_tests) in
    record {
      numeral_is = rw (bytes, any, few) refl;
      few = omega (arith, short, filter_short is_digit xs);
      value = rw none at s.valued.value_is;
      below = valued_fits xs i value _ _ s.valued;
    }
