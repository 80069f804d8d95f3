-- Which lexeme is first in a text, for each class of them.
use Rattle.std.proofs.Common.{◌≡◌, ◌∙◌, refl, sym, ap, subst, ℕ, ◌+◌, ◌-◌, ◌≤◌, ◌<◌, List, [], ◌∷◌, ◌++◌, Option, Some, None, Bool, true, false, length, take, drop, arith, suc, length-append, length-drop, add-zero, inl, inr, append_assoc}
use Rattle.std.specs.Prelude.{option_map, not, ◌⊎◌, ◌||◌, ◌==◌, filter, nat_le, slice_index}
use Rattle.std.specs.List.{list_all, list_any, prefix_len}
use Rattle.std.proofs.lemmas.Bool.{not-false, and_parts, and_from, or_left, or_parts, or_cases, cases_Bool, false≢true, eqb-true, ne_eqb, or_from, and_right, lt-leb}
use Rattle.std.proofs.lemmas.List.{length-take-le, take_rest, take_more, drop_all, drop_more, get_or-drop, take_at, drop_at, get_or-take, take-append-drop, append-nil}
use Rattle.std.proofs.lemmas.List.Folds.{list_all-append, length-prefix_len}
use Rattle.definitions.specs.Characters.{is_letter, is_digit, is_word_byte}
use Rattle.definitions.specs.Lexing.{lexeme_of, is_comment, is_word, is_numeral, symbol}
use Rattle.definitions.specs.Token.{Symbol as SpecSymbol}
use Rattle.lexer.specs.declared.token.Symbol.{Symbol}
use Rattle.lexer.specs.Meaning.{symbol_of}
use Rattle.lexer.specs.Lexeme.{IsFirst, IsNumeralLength, EndsNumeral, runs_on, begins_numeral, begins_comment, lexeme_of_byte}
use Rattle.lexer.specs.Lexeme as meaning
use Rattle.lexer.specs.declared.lexeme.Lexeme.{Lexeme}
use Rattle.lexer.specs.declared.lexeme.Lexeme.TheVariants as variant
use Rattle.lexer.proofs.Longest.{NoLonger, is_longest-from}
use Rattle.lexer.proofs.Heads.{word_is, word_ends, number_is, number_ends, run_on_is, run_on_ends, reading, string_is, string_ends, comment_is, comment_ends, pair_is, pair_ends, byte_is, byte_ends, reading-append, digit_no_point, all_then_not}

one_more : (n : ℕ) → 1 + n ≡ suc n
one_more n = omega arith

-- ---- a text that is cut

first_of : (own rest : List ℕ) (l : Lexeme) (n : ℕ) → length own ≡ n → lexeme_of own ≡ Some (meaning.lexeme_of own l) → NoLonger own rest → IsFirst (own ++ rest) l n
first_of own rest l n e same longer =
    let front : take n (own ++ rest) ≡ own = take_at own rest n e in
    let back : drop n (own ++ rest) ≡ rest = drop_at own rest n e in
    record {
      within = omega (arith, e, length-append own rest);
      same = rw front same;
      longest = rw (front, back) (is_longest-from own rest longer);
    }

first_at : (text own rest : List ℕ) (l : Lexeme) (n : ℕ) → own ++ rest ≡ text → length own ≡ n → lexeme_of own ≡ Some (meaning.lexeme_of own l) → NoLonger own rest → IsFirst text l n
first_at text own rest l n t e same longer = let P : List ℕ → Type 0 = λ xs. IsFirst xs l n in subst P t (first_of own rest l n e same longer)

numeral_of : (own rest : List ℕ) (n : ℕ) → length own ≡ n → is_numeral own ≡ true → EndsNumeral own rest → IsNumeralLength (own ++ rest) n
numeral_of own rest n e same longer =
    let front : take n (own ++ rest) ≡ own = take_at own rest n e in
    let back : drop n (own ++ rest) ≡ rest = drop_at own rest n e in
    record {
      within = omega (arith, e, length-append own rest);
      same = rw front same;
      longest = rw (front, back) longer;
    }

numeral_at : (text own rest : List ℕ) (n : ℕ) → own ++ rest ≡ text → length own ≡ n → is_numeral own ≡ true → EndsNumeral own rest → IsNumeralLength text n
numeral_at text own rest n t e same longer = let P : List ℕ → Type 0 = λ xs. IsNumeralLength xs n in subst P t (numeral_of own rest n e same longer)

-- ---- the bytes from the front on that pass a test

pub prefix_passes : (p : ℕ → Bool) (xs : List ℕ) → list_all p (take (prefix_len p xs) xs) ≡ true
prefix_passes p [] = refl
prefix_passes p (x ∷ xs) = elim (cases_Bool (p x)) [
  | inl e ↦ rw (e, one_more (prefix_len p xs), e) (prefix_passes p xs)
  | inr e ↦ rw e refl
]

prefix_stops : (p : ℕ → Bool) (xs rest : List ℕ) (c : ℕ) → drop (prefix_len p xs) xs ≡ c ∷ rest → p c ≡ false
prefix_stops p [] rest c h = absurd (cc)
prefix_stops p (x ∷ xs) rest c h = elim (cases_Bool (p x)) [
  | inl e ↦ prefix_stops p xs rest c (rw (e, one_more (prefix_len p xs)) at h)
  | inr e ↦ let k : x ∷ xs ≡ c ∷ rest = rw e at h in let same : x ≡ c = cc in rw (← same) e
]

first_dropped : (xs rest : List ℕ) (n c : ℕ) → drop n xs ≡ c ∷ rest → slice_index xs n ≡ c
first_dropped xs rest n c h = sym (ap (λ k. slice_index xs k) (add-zero n)) ∙ sym (get_or-drop n xs 0 0) ∙ ap (λ ys. slice_index ys 0) h

prefix_some : (p : ℕ → Bool) (x : ℕ) (xs : List ℕ) → p x ≡ true → 0 < prefix_len p (x ∷ xs)
prefix_some p x xs h = rw h (omega arith)

-- ---- words

word_no_longer : (own rest : List ℕ) → is_word own ≡ true → ((c : ℕ) (more : List ℕ) → rest ≡ c ∷ more → is_word_byte c ≡ false) → NoLonger own rest
word_no_longer own [] w h = tt
word_no_longer own (c ∷ rest) w h = λ more. word_ends own more c w (h c rest refl)

word_from : (own : List ℕ) → is_letter (slice_index own 0) ≡ true → list_all is_word_byte own ≡ true → is_word own ≡ true
word_from [] h k = absurd (false≢true h)
word_from (a ∷ own) h k = and_from (is_letter a) _ h (and_parts (is_word_byte a) _ k).1

letter_first : (text : List ℕ) → is_letter (slice_index text 0) ≡ true → 0 < prefix_len is_word_byte text
letter_first [] h = absurd (false≢true h)
letter_first (a ∷ xs) h = prefix_some is_word_byte a xs (or_left _ _ (or_left (is_letter a) (is_digit a) h))

pub word_first : (text : List ℕ) → is_letter (slice_index text 0) ≡ true → IsFirst text variant.Word (prefix_len is_word_byte text)
word_first text h =
    let n : ℕ = prefix_len is_word_byte text in
    let w : is_word (take n text) ≡ true = word_from (take n text) (rw (get_or-take n text 0 0 (letter_first text h)) h) (prefix_passes is_word_byte text) in
    first_at text (take n text) (drop n text) variant.Word n (take-append-drop n text) (length-prefix_len is_word_byte text)
    (word_is (take n text) w) (word_no_longer (take n text) (drop n text) w (λ c more e. prefix_stops is_word_byte text more c e))

-- ---- numbers

abbrev points_of : List ℕ → ℕ
points_of xs = length (filter (λ c. c == 46) xs)

digits_pass : (own : List ℕ) → list_all is_digit own ≡ true → list_all (λ c. is_digit c || (c == 46)) own ≡ true
digits_pass [] h = refl
digits_pass (c ∷ own) h = let k = and_parts (is_digit c) _ h in and_from _ _ (or_left (is_digit c) (c == 46) k.0) (digits_pass own k.1)

digits_some : (own : List ℕ) → 0 < length own → list_all is_digit own ≡ true → list_any is_digit own ≡ true
digits_some [] l h = absurd (omega (arith, l))
digits_some (c ∷ own) l h = or_left (is_digit c) _ (and_parts (is_digit c) _ h).0

points_behind : (own rest : List ℕ) → list_all is_digit own ≡ true → points_of (own ++ rest) ≡ points_of rest
points_behind [] rest h = refl
points_behind (c ∷ own) rest h = let k = and_parts (is_digit c) _ h in rw (digit_no_point c k.0) (points_behind own rest k.1)

points_more : (xs ys : List ℕ) → suc (points_of ys) ≤ points_of (xs ++ 46 ∷ ys)
points_more [] ys = omega arith
points_more (x ∷ xs) ys = elim (cases_Bool (x == 46)) [
  | inl e ↦ rw e (omega (arith, points_more xs ys))
  | inr e ↦ rw e (points_more xs ys)
]

not_all : (own more : List ℕ) (c : ℕ) → (is_digit c || (c == 46)) ≡ false → is_numeral (own ++ c ∷ more) ≡ false
not_all own more c h = let k = all_then_not (λ (x : ℕ). is_digit x || (x == 46)) own more c h in rw k refl

second_point : (d e more : List ℕ) (c : ℕ) → c ≡ 46 → is_numeral ((d ++ 46 ∷ e) ++ c ∷ more) ≡ false
second_point d e more c k =
    let xs : List ℕ = (d ++ 46 ∷ e) ++ c ∷ more in
    let same : xs ≡ d ++ 46 ∷ (e ++ 46 ∷ more) = append_assoc d (46 ∷ e) (c ∷ more) ∙ ap (λ x. d ++ 46 ∷ (e ++ x ∷ more)) k in
    let l : 2 ≤ points_of xs = rw same (omega (arith, points_more d (e ++ 46 ∷ more), points_more e more)) in
    and_right _ (nat_le (points_of xs) 1) (lt-leb (points_of xs) 1 (omega (arith, l)))

some_digit : (d e : List ℕ) → 0 < length d + length e → list_all is_digit d ≡ true → list_all is_digit e ≡ true → list_any is_digit (d ++ 46 ∷ e) ≡ true
some_digit [] e l h k = digits_some e (omega (arith, l)) k
some_digit (c ∷ d) e l h k = or_left (is_digit c) _ (and_parts (is_digit c) _ h).0

digit_first : (c : ℕ) (xs : List ℕ) → is_digit c ≡ true → 0 < prefix_len is_digit (c ∷ xs)
digit_first c xs h = prefix_some is_digit c xs h

Begins : List ℕ → Type 0
Begins text = (0 < prefix_len is_digit text) ⊎ ((fraction : List ℕ) × (text ≡ 46 ∷ fraction) × (0 < prefix_len is_digit fraction))

begins : (text : List ℕ) → begins_numeral text ≡ true → Begins text
unfolding Begins
begins [] h = absurd (false≢true h)
begins (c ∷ []) h = inl (digit_first c [] h)
begins (c ∷ d ∷ xs) h = elim (or_cases (is_digit c) _ h) [
  | inl k ↦ inl (digit_first c (d ∷ xs) k)
  | inr k ↦ let p = and_parts (c == 46) _ k in inr (d ∷ xs, ap (λ x. x ∷ d ∷ xs) (eqb-true c 46 p.0), digit_first d xs p.1)
]

whole_some : (text : List ℕ) → begins_numeral text ≡ true → ((more : List ℕ) → drop (prefix_len is_digit text) text ≡ 46 ∷ more → ⊥) → 0 < prefix_len is_digit text
unfolding Begins
whole_some text b h = elim (begins text b) [
  | inl l ↦ l
  | inr w ↦ absurd (h w.0 (rw w.1 refl))
]

fraction_some : (text fraction : List ℕ) → begins_numeral text ≡ true → drop (prefix_len is_digit text) text ≡ 46 ∷ fraction → 0 < prefix_len is_digit text + prefix_len is_digit fraction
unfolding Begins
fraction_some text fraction b h = elim (begins text b) [
  | inl l ↦ omega (arith, l)
  | inr w ↦ let k : 46 ∷ w.0 ≡ 46 ∷ fraction = rw w.1 at h in let same : w.0 ≡ fraction = cc in rw (← same) (omega (arith, w.2))
]

whole_is : (own : List ℕ) → 0 < length own → list_all is_digit own ≡ true → is_numeral own ≡ true
whole_is own l h =
    let points : points_of own ≡ 0 = sym (ap points_of (append-nil own)) ∙ points_behind own [] h in
    and_from _ _ (and_from _ _ (digits_pass own h) (digits_some own l h)) (rw points refl)

fraction_is : (d e : List ℕ) → 0 < length d + length e → list_all is_digit d ≡ true → list_all is_digit e ≡ true → is_numeral (d ++ 46 ∷ e) ≡ true
fraction_is d e l h k =
    let none : points_of e ≡ 0 = sym (ap points_of (append-nil e)) ∙ points_behind e [] k in
    let points : points_of (d ++ 46 ∷ e) ≡ 1 = points_behind d (46 ∷ e) h ∙ ap suc none in
    let all : list_all (λ c. is_digit c || (c == 46)) (d ++ 46 ∷ e) ≡ true = list_all-append (λ (c : ℕ). is_digit c || (c == 46)) d (46 ∷ e) ∙ and_from _ _ (digits_pass d h) (digits_pass e k) in
    and_from _ _ (and_from _ _ all (some_digit d e l h k)) (rw points refl)

whole_ends : (own rest : List ℕ) → ((c : ℕ) (more : List ℕ) → rest ≡ c ∷ more → is_digit c ≡ false) → ((more : List ℕ) → rest ≡ 46 ∷ more → ⊥) → EndsNumeral own rest
whole_ends own [] h k = tt
whole_ends own (c ∷ rest) h k = λ more.
    let point : (c == 46) ≡ false = ne_eqb c 46 (λ e. k rest (ap (λ x. x ∷ rest) e)) in
    not_all own more c (or_from (is_digit c) _ (h c rest refl) point)

fraction_ends : (d e rest : List ℕ) → ((c : ℕ) (more : List ℕ) → rest ≡ c ∷ more → is_digit c ≡ false) → EndsNumeral (d ++ 46 ∷ e) rest
fraction_ends d e [] h = tt
fraction_ends d e (c ∷ rest) h = λ more. elim (cases_Bool (c == 46)) [
  | inl k ↦ second_point d e more c (eqb-true c 46 k)
  | inr k ↦ not_all (d ++ 46 ∷ e) more c (or_from (is_digit c) _ (h c rest refl) k)
]

pub numeral_whole : (text : List ℕ) → begins_numeral text ≡ true → ((more : List ℕ) → drop (prefix_len is_digit text) text ≡ 46 ∷ more → ⊥) → IsNumeralLength text (prefix_len is_digit text)
numeral_whole text b h =
    let n : ℕ = prefix_len is_digit text in
    numeral_at text (take n text) (drop n text) n (take-append-drop n text) (length-prefix_len is_digit text)
    (whole_is (take n text) (omega (arith, length-prefix_len is_digit text, whole_some text b h)) (prefix_passes is_digit text))
    (whole_ends (take n text) (drop n text) (λ c more e. prefix_stops is_digit text more c e) h)

pub numeral_fraction : (text fraction : List ℕ) → begins_numeral text ≡ true → drop (prefix_len is_digit text) text ≡ 46 ∷ fraction → IsNumeralLength text (prefix_len is_digit text + 1 + prefix_len is_digit fraction)
numeral_fraction text fraction b h =
    let n : ℕ = prefix_len is_digit text in
    let m : ℕ = prefix_len is_digit fraction in
    let d : List ℕ = take n text in
    let e : List ℕ = take m fraction in
    let rest : List ℕ = drop m fraction in
    let ld : length d ≡ n = length-prefix_len is_digit text in
    let le : length e ≡ m = length-prefix_len is_digit fraction in
    let same : (d ++ 46 ∷ e) ++ rest ≡ text =
    append_assoc d (46 ∷ e) rest ∙ ap (λ xs. d ++ 46 ∷ xs) (take-append-drop m fraction) ∙ ap (λ xs. d ++ xs) (sym h) ∙ take-append-drop n text in
    numeral_at text (d ++ 46 ∷ e) rest (n + 1 + m) same (omega (arith, length-append d (46 ∷ e), ld, le))
    (fraction_is d e (omega (arith, ld, le, fraction_some text fraction b h)) (prefix_passes is_digit text) (prefix_passes is_digit fraction))
    (fraction_ends d e rest (λ c more k. prefix_stops is_digit fraction more c k))

pub numeral_without_point : (text : List ℕ) (n : ℕ) → begins_numeral text ≡ true → n ≡ prefix_len is_digit text → (n < length text → slice_index text n ≡ 46 → ⊥) → IsNumeralLength text n
numeral_without_point text n b e h =
    let P : ℕ → Type 0 = λ k. IsNumeralLength text k in
    subst P (sym e) (numeral_whole text b (λ more k.
    let d : drop n text ≡ 46 ∷ more = rw e k in
    h (omega (arith, length-drop n text, ap length d)) (first_dropped text more n 46 d)))

numeral_with_point_at : (text : List ℕ) (m : ℕ) → begins_numeral text ≡ true → prefix_len is_digit text < length text → slice_index text (prefix_len is_digit text) ≡ 46 → m ≡ prefix_len is_digit (drop (prefix_len is_digit text + 1) text) → IsNumeralLength text (prefix_len is_digit text + 1 + m)
numeral_with_point_at text m b l p f =
    let n : ℕ = prefix_len is_digit text in
    let fraction : List ℕ = drop (n + 1) text in
    rw f (numeral_fraction text fraction b (drop_more text n 0 l ∙ ap (λ x. x ∷ fraction) p))

pub numeral_with_point : (text : List ℕ) (n m : ℕ) → begins_numeral text ≡ true → n ≡ prefix_len is_digit text → n < length text → slice_index text n ≡ 46 → m ≡ prefix_len is_digit (drop (n + 1) text) → IsNumeralLength text (n + 1 + m)
numeral_with_point text n m b e =
    let P : ℕ → Type 0 = λ k. k < length text → slice_index text k ≡ 46 → m ≡ prefix_len is_digit (drop (k + 1) text) → IsNumeralLength text (k + 1 + m) in
    subst P (sym e) (numeral_with_point_at text m b)

number_no_longer : (own rest : List ℕ) → is_numeral own ≡ true → EndsNumeral own rest → runs_on rest ≡ false → NoLonger own rest
number_no_longer own [] n ends h = tt
number_no_longer own (c ∷ rest) n ends h = λ more. number_ends own more c n ends h

pub number_first : (text : List ℕ) (n : ℕ) → IsNumeralLength text n → runs_on (drop n text) ≡ false → IsFirst text variant.Number n
number_first text n k h =
    first_at text (take n text) (drop n text) variant.Number n (take-append-drop n text) (length-take-le n text k.within)
    (number_is (take n text) k.same) (number_no_longer (take n text) (drop n text) k.same k.longest h)

run_on_no_longer : (own rest : List ℕ) (c : ℕ) → is_numeral own ≡ true → EndsNumeral own (c ∷ []) → NoLonger (own ++ c ∷ []) rest
run_on_no_longer own [] c n ends = tt
run_on_no_longer own (d ∷ rest) c n ends = λ more. run_on_ends own more c d n ends

run_on_at : (text own rest : List ℕ) (n : ℕ) → own ++ rest ≡ text → length own ≡ n → is_numeral own ≡ true → EndsNumeral own rest → runs_on rest ≡ true → IsFirst text variant.RunOn (n + 1)
run_on_at text own [] n t e same ends h = absurd (false≢true h)
run_on_at text own (c ∷ rest) n t e same ends h =
    first_at text (own ++ c ∷ []) rest variant.RunOn (n + 1) (append_assoc own (c ∷ []) rest ∙ t) (omega (arith, length-append own (c ∷ []), e))
    (run_on_is own c same ends h) (run_on_no_longer own rest c same ends)

pub run_on_first : (text : List ℕ) (n : ℕ) → IsNumeralLength text n → runs_on (drop n text) ≡ true → IsFirst text variant.RunOn (n + 1)
run_on_first text n k h = run_on_at text (take n text) (drop n text) n (take-append-drop n text) (length-take-le n text k.within) k.same k.longest h

-- ---- strings

-- a string goes on to the end, or to a quote that no other follows
abbrev pub EndsString : (closed : Bool) → List ℕ → Type 0
EndsString closed [] = Unit {0}
EndsString closed (c ∷ rest) = (closed ≡ true) × ((c == 39) ≡ false)

string_no_longer : (body rest : List ℕ) (closed : Bool) → reading false body ≡ Some closed → EndsString closed rest → NoLonger (39 ∷ body) rest
string_no_longer body [] closed h ends = tt
string_no_longer body (c ∷ rest) closed h ends = λ more. string_ends body more c (rw ends.0 at h) ends.1

pub string_first : (text body rest : List ℕ) (closed : Bool) (n : ℕ) → 39 ∷ (body ++ rest) ≡ text → 1 + length body ≡ n → reading false body ≡ Some closed → EndsString closed rest → IsFirst text (variant.Quotation closed) n
string_first text body rest closed n t e h ends =
    first_at text (39 ∷ body) rest (variant.Quotation closed) n t (omega (arith, e)) (string_is body closed h) (string_no_longer body rest closed h ends)

-- the bytes behind an opening quote, as code cuts them off
pub behind_opening : (text : List ℕ) → 0 < length text → slice_index text 0 ≡ 39 → 39 ∷ take (length text - 1) (drop 1 text) ≡ text
behind_opening [] l h = absurd (omega (arith, l))
behind_opening (a ∷ xs) l h = ap (λ ys. 39 ∷ ys) (take_rest (a ∷ xs) 1) ∙ ap (λ x. x ∷ xs) (sym h)

read_next : (body : List ℕ) (i : ℕ) (closed next : Bool) → i < length body → reading false (take i body) ≡ Some closed → reading closed (slice_index body i ∷ []) ≡ Some next → reading false (take (i + 1) body) ≡ Some next
read_next body i closed next l h k = ap (reading false) (take_more body i 0 l) ∙ reading-append false closed (take i body) (slice_index body i ∷ []) h ∙ k

read_quote : (closed : Bool) → reading closed (39 ∷ []) ≡ Some (not closed)
read_quote true = refl
read_quote false = refl

pub read_a_quote : (body : List ℕ) (i : ℕ) (closed : Bool) → i < length body → reading false (take i body) ≡ Some closed → slice_index body i ≡ 39 → reading false (take (i + 1) body) ≡ Some (not closed)
read_a_quote body i closed l h q = read_next body i closed (not closed) l h (ap (λ x. reading closed (x ∷ [])) q ∙ read_quote closed)

pub read_a_character : (body : List ℕ) (i : ℕ) → i < length body → reading false (take i body) ≡ Some false → (slice_index body i ≡ 39 → ⊥) → reading false (take (i + 1) body) ≡ Some false
read_a_character body i l h q = let k = ne_eqb (slice_index body i) 39 q in read_next body i false false l h (rw k refl)

string_in : (text body : List ℕ) (i n : ℕ) (closed : Bool) → 39 ∷ body ≡ text → i ≤ length body → n ≡ i + 1 → reading false (take i body) ≡ Some closed → EndsString closed (drop i body) → IsFirst text (variant.Quotation closed) n
string_in text body i n closed t l e h ends =
    string_first text (take i body) (drop i body) closed n (ap (λ xs. 39 ∷ xs) (take-append-drop i body) ∙ t) (omega (arith, e, length-take-le i body l)) h ends

pub string_to_end : (text body : List ℕ) (i n : ℕ) (closed : Bool) → 39 ∷ body ≡ text → i ≤ length body → length body ≤ i → n ≡ i + 1 → reading false (take i body) ≡ Some closed → IsFirst text (variant.Quotation closed) n
string_to_end text body i n closed t l m e h = string_in text body i n closed t l e h (rw (drop_all i body m) tt)

pub string_to_quote : (text body : List ℕ) (i n : ℕ) (closed : Bool) → 39 ∷ body ≡ text → i < length body → n ≡ i + 1 → reading false (take i body) ≡ Some closed → closed ≡ true → (slice_index body i ≡ 39 → ⊥) → IsFirst text (variant.Quotation closed) n
string_to_quote text body i n closed t l e h c q =
    string_in text body i n closed t (omega (arith, l)) e h (rw (drop_more body i 0 l) (c, ne_eqb (slice_index body i) 39 q))

-- ---- comments, symbols and bytes

comment_no_longer : (own rest : List ℕ) → is_comment own ≡ true → ((c : ℕ) (more : List ℕ) → rest ≡ c ∷ more → not (c == 10) ≡ false) → NoLonger own rest
comment_no_longer own [] w h = tt
comment_no_longer own (c ∷ rest) w h = λ more.
    let newline : c ≡ 10 = eqb-true c 10 (not-false _ (h c rest refl)) in
    ap (λ x. lexeme_of (own ++ x ∷ more)) newline ∙ comment_ends own more w

pub comment_first : (text : List ℕ) → begins_comment text ≡ true → IsFirst text variant.Gap (prefix_len (λ c. not (c == 10)) text)
comment_first [] h = absurd (false≢true h)
comment_first (a ∷ []) h = absurd (false≢true h)
comment_first (a ∷ b ∷ xs) h =
    let k = and_parts (a == 45) (b == 45) h in
    let p = λ (c : ℕ). not (c == 10) in
    let m : ℕ = prefix_len p xs in
    let pa : p a ≡ true = rw (eqb-true a 45 k.0) refl in
    let pb : p b ≡ true = rw (eqb-true b 45 k.1) refl in
    let n : prefix_len p (a ∷ b ∷ xs) ≡ suc (suc m) = rw (pa, pb) (omega arith) in
    let own : List ℕ = a ∷ b ∷ take m xs in
    let w : is_comment own ≡ true = and_from _ _ h (prefix_passes p xs) in
    first_at (a ∷ b ∷ xs) own (drop m xs) variant.Gap (prefix_len p (a ∷ b ∷ xs)) (ap (λ ys. a ∷ b ∷ ys) (take-append-drop m xs))
    (omega (arith, n, length-prefix_len p xs)) (comment_is own w) (comment_no_longer own (drop m xs) w (λ c more e. prefix_stops p xs more c e))

pair_no_longer : (a b : ℕ) (rest : List ℕ) (s : SpecSymbol) → symbol (a ∷ b ∷ []) ≡ Some s → NoLonger (a ∷ b ∷ []) rest
pair_no_longer a b [] s h = tt
pair_no_longer a b (c ∷ rest) s h = λ more. pair_ends a b c more s h

pub pair_first : (text : List ℕ) (s : Symbol) → 2 ≤ length text → symbol (slice_index text 0 ∷ slice_index text 1 ∷ []) ≡ Some (symbol_of s) → IsFirst text (variant.Sign s) 2
pair_first [] s l h = absurd (omega (arith, l))
pair_first (a ∷ []) s l h = absurd (omega (arith, l))
pair_first (a ∷ b ∷ xs) s l h = first_at (a ∷ b ∷ xs) (a ∷ b ∷ []) xs (variant.Sign s) 2 refl refl (pair_is a b (symbol_of s) h) (pair_no_longer a b xs (symbol_of s) h)

pub no_sign : (o : Option Symbol) (s : Option SpecSymbol) → option_map symbol_of o ≡ s → o ≡ None → s ≡ None
no_sign o s e h = sym e ∙ ap (option_map symbol_of) h

pub byte_first : (text : List ℕ) (l : Lexeme) → 0 < length text → is_letter (slice_index text 0) ≡ false → begins_numeral text ≡ false → (slice_index text 0 == 39) ≡ false → begins_comment text ≡ false → (2 ≤ length text → symbol (slice_index text 0 ∷ slice_index text 1 ∷ []) ≡ None) → meaning.lexeme_of (slice_index text 0 ∷ []) l ≡ lexeme_of_byte (slice_index text 0) → IsFirst text l 1
byte_first [] l some letter numeral quote comment sign h = absurd (omega (arith, some))
byte_first (a ∷ []) l some letter numeral quote comment sign h =
    first_at (a ∷ []) (a ∷ []) [] l 1 refl refl (byte_is a letter numeral quote ∙ ap Some (sym h)) tt
byte_first (a ∷ b ∷ xs) l some letter numeral quote comment sign h =
    first_at (a ∷ b ∷ xs) (a ∷ []) (b ∷ xs) l 1 refl refl (byte_is a letter (or_parts (is_digit a) _ numeral).0 quote ∙ ap Some (sym h))
    (λ more. byte_ends a b more letter numeral quote comment (sign (omega arith)))
