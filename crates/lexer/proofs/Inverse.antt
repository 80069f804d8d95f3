-- What a text is whose lexeme is known.
use Rattle.std.proofs.Common.{◌≡◌, refl, subst, ℕ, ◌+◌, ◌≤◌, List, [], ◌∷◌, Option, Some, None, Bool, true, false, length, arith, inl, inr}
use Rattle.std.specs.Prelude.{◌&&◌, ◌||◌, ◌==◌, filter, nat_le, option_map, if◌then◌else◌, slice_index}
use Rattle.std.specs.List.{list_all, list_any}
use Rattle.std.specs.Str.{IsAscii}
use Rattle.std.proofs.lemmas.Bool.{and_parts, and_from, cases_Bool, false≢true, eqb-true, leb-true}
use Rattle.std.proofs.lemmas.Bool.Decides.{nat_tests}
use Rattle.std.proofs.lemmas.Str.Ascii.{IsAscii-nil, IsAscii-cons}
use Rattle.definitions.specs.Characters.{is_letter, is_digit, is_word_byte, is_blank, is_printable}
use Rattle.definitions.specs.Lexing.{Quoted, lexeme_of, is_comment, is_word, is_numeral, is_run_on, behind_quote, symbol, lexeme_of_rest, or_else, digits_of, Lexeme, Gap, Word', Number, Quotation, Sign, RunOn, Stray}
use Rattle.definitions.specs.Token.{Symbol}
use Rattle.lexer.proofs.Heads.{symbol-longer}

abbrev pub IsText : List ℕ → Lexeme → Type 0
IsText own Gap = Unit {0}
IsText own Word' = is_word own ≡ true
IsText own Number = is_numeral own ≡ true
IsText own (Quotation q) = behind_quote own ≡ Some q
IsText own (Sign s) = symbol own ≡ Some s
IsText own RunOn = is_run_on own ≡ true
IsText own Stray = Unit {0}

at_same : (own : List ℕ) (k l : Lexeme) → Some k ≡ Some l → IsText own k → IsText own l
at_same own k l e h = let P : Lexeme → Type 0 = λ x. IsText own x in let same : k ≡ l = cc in subst P same h

rest_text : (own : List ℕ) (l : Lexeme) → lexeme_of_rest own ≡ Some l → IsText own l
rest_text [] l h = absurd (cc)
rest_text (c ∷ []) l h = elim (cases_Bool (is_blank c)) [
  | inl e ↦ at_same (c ∷ []) Gap l (rw e at h) tt
  | inr e ↦ at_same (c ∷ []) Stray l (rw e at h) tt
]
rest_text (c ∷ d ∷ own) l h = absurd (cc)

choose : (own : List ℕ) (a b c d : Bool) (q : Option Quoted) (s : Option Symbol) (l : Lexeme) → is_word own ≡ b → is_numeral own ≡ c → is_run_on own ≡ d → behind_quote own ≡ q → symbol own ≡ s → (if a then Some Gap else if b then Some Word' else if c then Some Number else if d then Some RunOn else or_else (option_map Quotation q) (or_else (option_map Sign s) (lexeme_of_rest own))) ≡ Some l → IsText own l
choose own true b c d q s l hb hc hd hq hs h = at_same own Gap l h tt
choose own false true c d q s l hb hc hd hq hs h = at_same own Word' l h hb
choose own false false true d q s l hb hc hd hq hs h = at_same own Number l h hc
choose own false false false true q s l hb hc hd hq hs h = at_same own RunOn l h hd
choose own false false false false (Some q) s l hb hc hd hq hs h = at_same own (Quotation q) l h hq
choose own false false false false None (Some s) l hb hc hd hq hs h = at_same own (Sign s) l h hs
choose own false false false false None None l hb hc hd hq hs h = rest_text own l h

pub text_of : (own : List ℕ) (l : Lexeme) → lexeme_of own ≡ Some l → IsText own l
text_of own l h = choose own (is_comment own) (is_word own) (is_numeral own) (is_run_on own) (behind_quote own) (symbol own) l refl refl refl refl refl h

-- ---- numbers

one_other : (own : List ℕ) → list_all (λ c. is_digit c || (c == 46)) own ≡ true → length own ≤ length (digits_of own) + length (filter (λ c. c == 46) own)
one_other [] h = omega arith
one_other (c ∷ own) h = let k = and_parts (is_digit c || (c == 46)) _ h in elim (cases_Bool (is_digit c)) [
  | inl d ↦ elim (cases_Bool (c == 46)) [
    | inl p ↦ rw (d, p) (omega (arith, one_other own k.1))
    | inr p ↦ rw (d, p) (omega (arith, one_other own k.1))
  ]
  | inr d ↦ let p : (c == 46) ≡ true = rw d at k.0 in rw (d, p) (omega (arith, one_other own k.1))
]

pub at_most_one_other : (own : List ℕ) → is_numeral own ≡ true → length own ≤ length (digits_of own) + 1
at_most_one_other own h =
    let a = and_parts (list_all (λ c. is_digit c || (c == 46)) own && list_any is_digit own) _ h in
    let b = and_parts (list_all (λ c. is_digit c || (c == 46)) own) _ a.0 in
    let l : length (filter (λ c. c == 46) own) ≤ 1 = leb-true _ 1 a.1 in
    omega (arith, one_other own b.0, l)

pub opening_quote : (own : List ℕ) (q : Quoted) → behind_quote own ≡ Some q → slice_index own 0 ≡ 39
opening_quote [] q h = absurd (cc)
opening_quote (c ∷ own) q h = elim (cases_Bool (c == 39)) [
  | inl e ↦ eqb-true c 39 e
  | inr e ↦ let k : None ≡ Some q = rw e at h in absurd (cc)
]

-- ---- a token has characters of ASCII alone

pub all_ascii : (own : List ℕ) → list_all (λ c. nat_le c 127) own ≡ true → IsAscii own
all_ascii [] h = IsAscii-nil
all_ascii (c ∷ own) h = let k = and_parts (nat_le c 127) _ h in let l : c ≤ 127 = leb-true c 127 k.0 in IsAscii-cons c own (omega arith) (all_ascii own k.1)

pub weaker : (p q : ℕ → Bool) (own : List ℕ) → ((c : ℕ) → p c ≡ true → q c ≡ true) → list_all p own ≡ true → list_all q own ≡ true
weaker p q [] w h = refl
weaker p q (c ∷ own) w h = let k = and_parts (p c) _ h in and_from _ _ (w c k.0) (weaker p q own w k.1)

sign_ascii_one : (a : ℕ) (s : Symbol) → symbol (a ∷ []) ≡ Some s → a ≤ 127
sign_ascii_one a s h = grind (arith, nat_tests)

sign_ascii_two : (a b : ℕ) (s : Symbol) → symbol (a ∷ b ∷ []) ≡ Some s → (a ≤ 127) × (b ≤ 127)
sign_ascii_two a b s h = grind (arith, nat_tests)

word_byte_ascii : (c : ℕ) → is_word_byte c ≡ true → nat_le c 127 ≡ true
word_byte_ascii c h = grind (arith, nat_tests)

number_byte_ascii : (c : ℕ) → (is_digit c || (c == 46)) ≡ true → nat_le c 127 ≡ true
number_byte_ascii c h = grind (arith, nat_tests)

pub printable_ascii : (c : ℕ) → is_printable c ≡ true → nat_le c 127 ≡ true
printable_ascii c h = grind (arith, nat_tests)

letter_is_word_byte : (c : ℕ) → is_letter c ≡ true → is_word_byte c ≡ true
letter_is_word_byte c h = grind (arith, nat_tests)

pub word_ascii : (own : List ℕ) → is_word own ≡ true → IsAscii own
word_ascii [] h = absurd (false≢true h)
word_ascii (c ∷ own) h =
    let k = and_parts (is_letter c) _ h in
    all_ascii (c ∷ own) (weaker is_word_byte (λ (x : ℕ). nat_le x 127) (c ∷ own) word_byte_ascii (and_from _ _ (letter_is_word_byte c k.0) k.1))

pub number_ascii : (own : List ℕ) → is_numeral own ≡ true → IsAscii own
number_ascii own h =
    let a = and_parts (list_all (λ c. is_digit c || (c == 46)) own && list_any is_digit own) _ h in
    let b = and_parts (list_all (λ c. is_digit c || (c == 46)) own) _ a.0 in
    all_ascii own (weaker (λ (x : ℕ). is_digit x || (x == 46)) (λ (x : ℕ). nat_le x 127) own number_byte_ascii b.0)

pub sign_ascii : (own : List ℕ) (s : Symbol) → symbol own ≡ Some s → IsAscii own
sign_ascii [] s h = IsAscii-nil
sign_ascii (a ∷ []) s h = IsAscii-cons a [] (omega (arith, sign_ascii_one a s h)) IsAscii-nil
sign_ascii (a ∷ b ∷ []) s h =
    let k = sign_ascii_two a b s h in
    IsAscii-cons a (b ∷ []) (omega (arith, k.0)) (IsAscii-cons b [] (omega (arith, k.1)) IsAscii-nil)
sign_ascii (a ∷ b ∷ c ∷ own) s h = let k = symbol-longer a b c own in absurd (cc)
