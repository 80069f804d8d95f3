-- The tokens of lexemes.
use Rattle.std.proofs.Common.{◌≡◌, ◌∙◌, refl, sym, ap, ℕ, ◌+◌, ◌-◌, ◌*◌, ◌^◌, ◌≤◌, ◌<◌, List, [], ◌∷◌, Option, Some, None, Ok, Err, Bool, true, false, cond, ltb, length, drop, arith, inl, inr, lit≤}
use Rattle.std.specs.Prelude.{not, ◌&&◌, ◌==◌, nat_le, option_map, if◌then◌else◌, slice_index, position}
use Rattle.std.specs.List.{list_all, prefix_len}
use Rattle.std.specs.Char.{digit_value}
use Rattle.std.specs.Str.{IsAscii}
use Rattle.std.specs.Str.Parse.{digits_value, digits_value_after}
use Rattle.std.proofs.Math.Nat.{pow-le-pow_right}
use Rattle.std.proofs.lemmas.Bool.{cases_Bool, eqb-true, le-leb, ltb-false, not-true}
use Rattle.std.proofs.lemmas.Bool.Decides.{nat_tests}
use Rattle.std.proofs.lemmas.Int.Digits.{digits_value-lt}
use Rattle.std.proofs.lemmas.List.{drop_more, take_all}
use Rattle.std.proofs.lemmas.List.Folds.{list_all_at}
use Rattle.std.proofs.lemmas.List.Quantifiers.{position-Some}
use Rattle.definitions.specs.Characters.{is_digit, is_printable, character_count}
use Rattle.definitions.specs.Binding.Formed.{IsWrittenString}
use Rattle.definitions.specs.Lexing.{Quoted, quoted, behind_quote, lexeme_of, token_of, digits_of, Lexeme, Gap, Word', Number, Quotation, Sign, RunOn, Stray, LexFault}
use Rattle.definitions.specs.Refusal.{StrayCharacter}
use Rattle.definitions.specs.Token.{Token, String}
use Rattle.definitions.proofs.ReadTokens.{digits_all, all_begin, all_printable}
use Rattle.lexer.specs.Quoted.{unquoted, behind_first, quoted_text}
use Rattle.lexer.specs.Lexeme.{quotation_of}
use Rattle.lexer.proofs.First.{prefix_passes}
use Rattle.lexer.proofs.Heads.{reading, as_quoted, quoted-reading}
use Rattle.lexer.proofs.Inverse.{text_of, opening_quote, all_ascii, weaker, word_ascii, number_ascii, sign_ascii, printable_ascii}

-- ---- numbers

digit_value_small : (c : ℕ) → is_digit c ≡ true → (digit_value c < 10) × (digit_value c ≡ c - 48)
digit_value_small c h = (grind (arith, nat_tests), grind (arith, nat_tests))

pub digits_small : (own : List ℕ) → length (digits_of own) ≤ 38 → digits_value 10 (digits_of own) < 10 ^ 38
digits_small own h = omega (arith, digits_value-lt 10 (digits_of own) (digits_all own), pow-le-pow_right {n = 10} (lit≤ tt) h)

value_rises : (n : ℕ) (ds : List ℕ) → n ≤ digits_value_after 10 n ds
value_rises n [] = omega arith
value_rises n (d ∷ ds) = omega (arith, value_rises (n * 10 + digit_value d) ds)

pub value_within : (text : List ℕ) (i value total : ℕ) → i < length text → is_digit (slice_index text i) ≡ true → digits_value_after 10 value (digits_of (drop i text)) ≡ total → value * 10 + (slice_index text i - 48) ≤ total
value_within text i value total l d h =
    let c : ℕ = slice_index text i in
    let e : digits_of (drop i text) ≡ c ∷ digits_of (drop (i + 1) text) = ap digits_of (drop_more text i 0 l) ∙ rw d refl in
    let k : digits_value_after 10 (value * 10 + digit_value c) (digits_of (drop (i + 1) text)) ≡ total = rw e at h in
    omega (arith, value_rises (value * 10 + digit_value c) (digits_of (drop (i + 1) text)), k, (digit_value_small c d).1)

-- ---- strings

printable_unquoted : (after : Bool) (xs : List ℕ) → list_all is_printable (unquoted after xs) ≡ list_all is_printable xs
printable_unquoted after [] = refl
printable_unquoted true (c ∷ xs) = elim (cases_Bool (c == 39)) [
  | inl e ↦ rw (e, eqb-true c 39 e) (printable_unquoted false xs)
  | inr e ↦ rw e (ap (λ b. is_printable c && b) (printable_unquoted false xs))
]
printable_unquoted false (c ∷ xs) = elim (cases_Bool (c == 39)) [
  | inl e ↦ rw (e, eqb-true c 39 e) (printable_unquoted true xs)
  | inr e ↦ rw e (ap (λ b. is_printable c && b) (printable_unquoted false xs))
]

printable_string : (text : List ℕ) → slice_index text 0 ≡ 39 → list_all is_printable (unquoted false (behind_first text)) ≡ list_all is_printable text
printable_string [] h = refl
printable_string (c ∷ xs) h = rw h (printable_unquoted false xs)

not_not : (p : ℕ → Bool) (xs : List ℕ) → list_all (λ c. not (not (p c))) xs ≡ list_all p xs
not_not p [] = refl
not_not p (x ∷ xs) = elim (cases_Bool (p x)) [
  | inl e ↦ rw e (not_not p xs)
  | inr e ↦ rw e refl
]

none_from : {X : Type 0} (b : Bool) (x : X) → cond b (Some x) None ≡ None → b ≡ false
none_from true x h = absurd (cc)
none_from false x h = refl

all_from_position : (p : ℕ → Bool) (xs : List ℕ) → position (λ c. not (p c)) xs ≡ None → list_all p xs ≡ true
all_from_position p xs h =
    let q = λ (c : ℕ). not (not (p c)) in
    let n : ℕ = prefix_len q xs in
    let l : length xs ≤ n = ltb-false n (length xs) (none_from (ltb n (length xs)) n h) in
    sym (not_not p xs) ∙ sym (ap (list_all q) (take_all n xs l)) ∙ prefix_passes q xs

pub printable_from : (xs : List ℕ) → position (λ c. not (is_printable c)) xs ≡ None → list_all is_printable xs ≡ true
printable_from xs h = all_from_position is_printable xs h

pub unprintable_from : (xs : List ℕ) (i : ℕ) → position (λ c. not (is_printable c)) xs ≡ Some i → list_all is_printable xs ≡ false
unprintable_from xs i h = let k = position-Some (λ (c : ℕ). not (is_printable c)) xs i 0 h in list_all_at is_printable xs i 0 k.0 (not-true _ k.1)

-- a text that begins with a quote has the characters behind it
quoted_behind : (text : List ℕ) → slice_index text 0 ≡ 39 → quoted_text text ≡ unquoted false (behind_first text)
quoted_behind [] h = absurd (cc)
quoted_behind (c ∷ rest) h = rw h refl

pub string_fine : (start : ℕ) (text : List ℕ) (closed : Bool) → slice_index text 0 ≡ 39 → closed ≡ true → character_count (unquoted false (behind_first text)) ≤ 254 → position (λ c. not (is_printable c)) text ≡ None → token_of start text (quotation_of text closed) ≡ Ok (Some (record { at = start; text = text; kind = String (quoted_text text) }))
string_fine start text closed q c l h = rw (c, le-leb _ 254 l, printable_string text q, printable_from text h, quoted_behind text q) refl

pub string_written : (text : List ℕ) → slice_index text 0 ≡ 39 → character_count (unquoted false (behind_first text)) ≤ 254 → position (λ c. not (is_printable c)) text ≡ None → IsWrittenString (quoted_text text)
string_written text q l h =
    let all : list_all is_printable (unquoted false (behind_first text)) ≡ true = printable_string text q ∙ printable_from text h in
    let few : length (unquoted false (behind_first text)) ≤ 254 = omega (arith, l, all_begin (unquoted false (behind_first text)) all) in
    rw (quoted_behind text q) (few, all_printable (unquoted false (behind_first text)) all)

pub string_stray : (start : ℕ) (text : List ℕ) (closed : Bool) (i : ℕ) → slice_index text 0 ≡ 39 → closed ≡ true → character_count (unquoted false (behind_first text)) ≤ 254 → position (λ c. not (is_printable c)) text ≡ Some i → token_of start text (quotation_of text closed) ≡ Err (record { refusal = StrayCharacter; at = start + i })
string_stray start text closed i q c l h = rw (c, le-leb _ 254 l, printable_string text q, unprintable_from text i h, h) refl

-- ---- a token has characters of ASCII alone

codes_at : (codes : List ℕ) (r : Option Bool) (q : Quoted) → option_map (as_quoted codes) r ≡ Some q → q.codes ≡ codes
codes_at codes None q h = absurd (cc)
codes_at codes (Some closed) q h = let e : as_quoted codes closed ≡ q = cc in sym (ap (λ (x : Quoted). x.codes) e)

codes_of : (xs : List ℕ) (q : Quoted) → quoted false xs ≡ Some q → q.codes ≡ unquoted false xs
codes_of xs q h = codes_at (unquoted false xs) (reading false xs) q (sym (quoted-reading false xs) ∙ h)

string_ascii : (own : List ℕ) (q : Quoted) → behind_quote own ≡ Some q → list_all is_printable q.codes ≡ true → IsAscii own
string_ascii [] q h p = absurd (cc)
string_ascii (c ∷ xs) q h p =
    let e : c ≡ 39 = opening_quote (c ∷ xs) q h in
    let k : quoted false xs ≡ Some q = rw e at h in
    let all : list_all is_printable (c ∷ xs) ≡ true = rw e (sym (printable_unquoted false xs) ∙ sym (ap (list_all is_printable) (codes_of xs q k)) ∙ p) in
    all_ascii (c ∷ xs) (weaker is_printable (λ (x : ℕ). nat_le x 127) (c ∷ xs) printable_ascii all)

third_test : (a b c : Bool) (e f g : LexFault) (x t : Option Token) → (if not a then Err e else if not b then Err f else if c then Ok x else Err g) ≡ Ok t → c ≡ true
third_test false b c e f g x t h = absurd (cc)
third_test true false c e f g x t h = absurd (cc)
third_test true true true e f g x t h = refl
third_test true true false e f g x t h = absurd (cc)

pub token_ascii : (start : ℕ) (own : List ℕ) (l : Lexeme) (t : Token) → lexeme_of own ≡ Some l → token_of start own l ≡ Ok (Some t) → IsAscii own
token_ascii start own Gap t s h = absurd (cc)
token_ascii start own Word' t s h = word_ascii own (text_of own Word' s)
token_ascii start own Number t s h = number_ascii own (text_of own Number s)
token_ascii start own (Quotation q) t s h = string_ascii own q (text_of own (Quotation q) s) (third_test q.closed _ (list_all is_printable q.codes) _ _ _ _ (Some t) h)
token_ascii start own (Sign x) t s h = sign_ascii own x (text_of own (Sign x) s)
token_ascii start own RunOn t s h = elim (cases_Bool (nat_le (length (digits_of own)) 38)) [
  | inl e ↦ let k = rw e at h in absurd (cc)
  | inr e ↦ let k = rw e at h in absurd (cc)
]
token_ascii start own Stray t s h = absurd (cc)
