-- Texts that are no lexeme, by their first bytes.
use Rattle.std.proofs.Common.{◌≡◌, ◌∙◌, refl, sym, ap, ap₂, ℕ, ◌-◌, ◌≤◌, ◌<◌, List, [], ◌∷◌, ◌++◌, Option, Some, None, Bool, true, false, leb, length, take, arith, suc, length-append, append-nil, append_assoc, inl, inr}
use Rattle.std.specs.Prelude.{unwrap_or, not, option_map, if◌then◌else◌, ◌⊎◌, ◌&&◌, ◌||◌, ◌==◌, slice_index}
use Rattle.std.specs.List.{list_all, list_any}
use Rattle.std.proofs.lemmas.Bool.{false≢true, and_parts, lt-leb, ne_eqb, eqb-true, cases_Bool, and_right, and_left, or_parts, or_from}
use Rattle.std.proofs.lemmas.Bool.Decides.{nat_tests}
use Rattle.std.proofs.lemmas.List.{get_or_at}
use Rattle.definitions.specs.Characters.{is_letter, is_digit, is_word_byte}
use Rattle.definitions.specs.Lexing.{Quoted, with_code, quoted, lexeme_of, is_comment, is_word, is_numeral, is_run_on, behind_quote, or_else, symbol, lexeme_of_rest, Lexeme, Word', Number, RunOn, Quotation, Gap, Sign}
use Rattle.definitions.specs.Token.{Symbol}
use Rattle.lexer.specs.Quoted.{unquoted}
use Rattle.lexer.specs.Lexeme.{begins_numeral, begins_comment, runs_on, EndsNumeral, lexeme_of_byte}

-- ---- bytes

record ApartFrom (a : ℕ) : Type 0 where
  no_quote : (a == 39) ≡ false
  no_minus : (a == 45) ≡ false
  no_less : (a == 60) ≡ false
  no_greater : (a == 62) ≡ false

letter_from : (a : ℕ) → is_letter a ≡ true → 65 ≤ a
letter_from a h = grind (arith, nat_tests)

digit_within : (a : ℕ) → is_digit a ≡ true → (48 ≤ a) × (a ≤ 57)
digit_within a h = (grind (arith, nat_tests), grind (arith, nat_tests))

letter_apart : (a : ℕ) → is_letter a ≡ true → ApartFrom a
letter_apart a h = let k = letter_from a h in record {
  no_quote = ne_eqb a 39 (λ e. omega (arith, e));
  no_minus = ne_eqb a 45 (λ e. omega (arith, e));
  no_less = ne_eqb a 60 (λ e. omega (arith, e));
  no_greater = ne_eqb a 62 (λ e. omega (arith, e));
}

letter_no_digit : (a : ℕ) → is_letter a ≡ true → is_digit a ≡ false
letter_no_digit a h = let k = letter_from a h in and_right (leb 48 a) (leb a 57) (lt-leb a 57 (omega arith))

letter_no_point : (a : ℕ) → is_letter a ≡ true → (a == 46) ≡ false
letter_no_point a h = let k = letter_from a h in ne_eqb a 46 (λ e. omega (arith, e))

digit_no_letter : (a : ℕ) → is_digit a ≡ true → is_letter a ≡ false
digit_no_letter a h = let k = digit_within a h in grind (arith, nat_tests)

pub digit_no_point : (a : ℕ) → is_digit a ≡ true → (a == 46) ≡ false
digit_no_point a h = let k = digit_within a h in ne_eqb a 46 (λ e. omega (arith, e))

digit_apart : (a : ℕ) → is_digit a ≡ true → ApartFrom a
digit_apart a h = let k = digit_within a h in record {
  no_quote = ne_eqb a 39 (λ e. omega (arith, e));
  no_minus = ne_eqb a 45 (λ e. omega (arith, e));
  no_less = ne_eqb a 60 (λ e. omega (arith, e));
  no_greater = ne_eqb a 62 (λ e. omega (arith, e));
}

-- ---- all but the last byte

abbrev init : List ℕ → List ℕ
init [] = []
init (x ∷ []) = []
init (x ∷ y ∷ rest) = x ∷ init (y ∷ rest)

take_init : (xs : List ℕ) → take (length xs - 1) xs ≡ init xs
take_init [] = refl
take_init (x ∷ []) = refl
take_init (x ∷ y ∷ rest) =
    let e : suc (suc (length rest)) - 1 ≡ suc (length rest) = omega arith in
    let k : suc (length rest) - 1 ≡ length rest = omega arith in
    rw e (ap (λ ys. x ∷ ys) (rw k at (take_init (y ∷ rest))))

init-append : (own more : List ℕ) (c : ℕ) → init (own ++ c ∷ more) ≡ own ++ init (c ∷ more)
init-append [] more c = refl
init-append (x ∷ []) more c = refl
init-append (x ∷ y ∷ own) more c = ap (λ ys. x ∷ ys) (init-append (y ∷ own) more c)

is_run_on-none : (xs : List ℕ) → is_numeral (init xs) ≡ false → is_run_on xs ≡ false
is_run_on-none xs h = rw (take_init xs, h) refl

-- ---- symbols

and_false : (a : Bool) → (a && false) ≡ false
and_false true = refl
and_false false = refl

symbol-long : (a b : ℕ) (xs : List ℕ) → (a == 60) ≡ false → (a == 62) ≡ false → symbol (a ∷ b ∷ xs) ≡ None
symbol-long a b xs h k = simp (h, k, and_false)

pub symbol-longer : (a b c : ℕ) (xs : List ℕ) → symbol (a ∷ b ∷ c ∷ xs) ≡ None
symbol-longer a b c xs = simp and_false

-- ---- the tests in turn

none_of : (own : List ℕ) → is_comment own ≡ false → is_word own ≡ false → is_numeral own ≡ false → is_run_on own ≡ false → behind_quote own ≡ None → symbol own ≡ None → lexeme_of_rest own ≡ None → lexeme_of own ≡ None
none_of own comment word numeral run_on quote sign rest = rw (comment, word, numeral, run_on, quote, sign, rest) refl

is_comment-head : (a : ℕ) (xs : List ℕ) → (a == 45) ≡ false → is_comment (a ∷ xs) ≡ false
is_comment-head a [] h = refl
is_comment-head a (b ∷ xs) h = rw h refl

is_numeral-head : (a : ℕ) (xs : List ℕ) → is_digit a ≡ false → (a == 46) ≡ false → is_numeral (a ∷ xs) ≡ false
is_numeral-head a xs h k = rw (h, k) refl

is_word-head : (a : ℕ) (xs : List ℕ) → is_letter a ≡ false → is_word (a ∷ xs) ≡ false
is_word-head a xs h = rw h refl

init_no_numeral : (a : ℕ) (xs : List ℕ) → is_digit a ≡ false → (a == 46) ≡ false → is_numeral (init (a ∷ xs)) ≡ false
init_no_numeral a [] h k = refl
init_no_numeral a (b ∷ xs) h k = is_numeral-head a (init (b ∷ xs)) h k

plain_none : (a : ℕ) (xs : List ℕ) → 0 < length xs → ApartFrom a → is_word (a ∷ xs) ≡ false → is_numeral (a ∷ xs) ≡ false → is_run_on (a ∷ xs) ≡ false → lexeme_of (a ∷ xs) ≡ None
plain_none a [] l apart word numeral run_on = absurd (omega (arith, l))
plain_none a (b ∷ xs) l apart word numeral run_on =
    none_of (a ∷ b ∷ xs) (is_comment-head a (b ∷ xs) apart.no_minus) word numeral run_on (rw (apart.no_quote) refl) (symbol-long a b xs apart.no_less apart.no_greater) refl

second : (own more : List ℕ) (c : ℕ) → 0 < length (own ++ c ∷ more)
second own more c = omega (arith, length-append own (c ∷ more))

-- ---- words

pub all_then_not : (p : ℕ → Bool) (own more : List ℕ) (c : ℕ) → p c ≡ false → list_all p (own ++ c ∷ more) ≡ false
all_then_not p [] more c h = rw h refl
all_then_not p (x ∷ own) more c h = and_right (p x) _ (all_then_not p own more c h)

pub word_ends : (own more : List ℕ) (c : ℕ) → is_word own ≡ true → is_word_byte c ≡ false → lexeme_of (own ++ c ∷ more) ≡ None
word_ends [] more c w h = absurd (false≢true w)
word_ends (a ∷ own) more c w h =
    let letter : is_letter a ≡ true = (and_parts (is_letter a) _ w).0 in
    let xs : List ℕ = own ++ c ∷ more in
    plain_none a xs (second own more c) (letter_apart a letter) (and_right (is_letter a) _ (all_then_not is_word_byte own more c h))
    (is_numeral-head a xs (letter_no_digit a letter) (letter_no_point a letter))
    (is_run_on-none (a ∷ xs) (init_no_numeral a xs (letter_no_digit a letter) (letter_no_point a letter)))

pub word_is : (own : List ℕ) → is_word own ≡ true → lexeme_of own ≡ Some Word'
word_is [] w = absurd (false≢true w)
word_is (a ∷ own) w = let k = is_comment-head a own (letter_apart a (and_parts (is_letter a) _ w).0).no_minus in rw (k, w) refl

-- ---- numbers

numeral_head : (a : ℕ) (xs : List ℕ) → is_numeral (a ∷ xs) ≡ true → (is_digit a ≡ true) ⊎ (a ≡ 46)
numeral_head a xs n = elim (cases_Bool (is_digit a)) [
  | inl d ↦ inl d
  | inr d ↦ elim (cases_Bool (a == 46)) [
    | inl p ↦ inr (eqb-true a 46 p)
    | inr p ↦ absurd (false≢true (sym (is_numeral-head a xs d p) ∙ n))
  ]
]

numeral_apart : (a : ℕ) (xs : List ℕ) → is_numeral (a ∷ xs) ≡ true → ApartFrom a × (is_letter a ≡ false)
numeral_apart a xs n = elim (numeral_head a xs n) [
  | inl d ↦ (digit_apart a d, digit_no_letter a d)
  | inr e ↦ rw e (record { no_quote = refl; no_minus = refl; no_less = refl; no_greater = refl }, refl)
]

pub number_is : (own : List ℕ) → is_numeral own ≡ true → lexeme_of own ≡ Some Number
number_is [] n = absurd (false≢true n)
number_is (a ∷ own) n =
    let k = numeral_apart a own n in
    let comment = is_comment-head a own k.0.no_minus in
    let word = is_word-head a own k.1 in
    rw (comment, word, n) refl

last-push : (own : List ℕ) (c : ℕ) → slice_index (own ++ c ∷ []) (length (own ++ c ∷ []) - 1) ≡ c
last-push own c = get_or_at own c [] 0 _ (omega (arith, length-append own (c ∷ [])))

is_run_on-push : (own : List ℕ) (c : ℕ) → is_run_on (own ++ c ∷ []) ≡ (is_numeral own && runs_on (c ∷ []))
is_run_on-push own c = rw (take_init (own ++ c ∷ []), init-append own [] c, append-nil own, last-push own c) refl

no_run_on : (own more : List ℕ) (c : ℕ) → is_numeral own ≡ true → EndsNumeral own (c ∷ []) → runs_on (c ∷ []) ≡ false → is_run_on (own ++ c ∷ more) ≡ false
no_run_on own [] c n ends h = is_run_on-push own c ∙ rw (n, h) refl
no_run_on own (m ∷ ms) c n ends h = is_run_on-none (own ++ c ∷ m ∷ ms) (rw (init-append own (m ∷ ms) c) (ends (init (m ∷ ms))))

pub number_ends : (own more : List ℕ) (c : ℕ) → is_numeral own ≡ true → EndsNumeral own (c ∷ []) → runs_on (c ∷ []) ≡ false → lexeme_of (own ++ c ∷ more) ≡ None
number_ends [] more c n ends h = absurd (false≢true n)
number_ends (a ∷ own) more c n ends h =
    let k = numeral_apart a own n in
    let xs : List ℕ = own ++ c ∷ more in
    plain_none a xs (second own more c) k.0 (is_word-head a xs k.1) (ends more) (no_run_on (a ∷ own) more c n ends h)

pub run_on_is : (own : List ℕ) (c : ℕ) → is_numeral own ≡ true → EndsNumeral own (c ∷ []) → runs_on (c ∷ []) ≡ true → lexeme_of (own ++ c ∷ []) ≡ Some RunOn
run_on_is [] c n ends h = absurd (false≢true n)
run_on_is (a ∷ own) c n ends h =
    let k = numeral_apart a own n in
    let comment = is_comment-head a (own ++ c ∷ []) k.0.no_minus in
    let word = is_word-head a (own ++ c ∷ []) k.1 in
    let numeral = ends [] in
    let run_on : is_run_on ((a ∷ own) ++ c ∷ []) ≡ true = is_run_on-push (a ∷ own) c ∙ rw (n, h) refl in
    rw (comment, word, numeral, run_on) refl

pub run_on_ends : (own more : List ℕ) (c d : ℕ) → is_numeral own ≡ true → EndsNumeral own (c ∷ []) → lexeme_of ((own ++ c ∷ []) ++ d ∷ more) ≡ None
run_on_ends [] more c d n ends = absurd (false≢true n)
run_on_ends (a ∷ own) more c d n ends =
    let k = numeral_apart a own n in
    let xs : List ℕ = own ++ c ∷ d ∷ more in
    ap lexeme_of (append_assoc (a ∷ own) (c ∷ []) (d ∷ more))
    ∙ plain_none a xs (second own (d ∷ more) c) k.0 (is_word-head a xs k.1) (ends (d ∷ more))
    (is_run_on-none (a ∷ xs) (rw (init-append (a ∷ own) (d ∷ more) c) (ends (init (d ∷ more)))))

-- ---- strings

-- whether a quote has just ended what is read behind an opening quote; none where it ended before
abbrev pub reading : (after_quote : Bool) → List ℕ → Option Bool
reading after [] = Some after
reading true (c ∷ rest) = if c == 39 then reading false rest else None
reading false (c ∷ rest) = if c == 39 then reading true rest else reading false rest

abbrev pub as_quoted : List ℕ → Bool → Quoted
as_quoted codes closed = record { closed = closed; codes = codes }

with_code-map : (c : ℕ) (codes : List ℕ) (r : Option Bool) → with_code c (option_map (as_quoted codes) r) ≡ option_map (as_quoted (c ∷ codes)) r
with_code-map c codes None = refl
with_code-map c codes (Some closed) = refl

pub quoted-reading : (after : Bool) (xs : List ℕ) → quoted after xs ≡ option_map (as_quoted (unquoted after xs)) (reading after xs)
quoted-reading after [] = refl
quoted-reading true (c ∷ xs) = elim (cases_Bool (c == 39)) [
  | inl e ↦ rw (e, quoted-reading false xs) (with_code-map 39 (unquoted false xs) (reading false xs))
  | inr e ↦ rw e refl
]
quoted-reading false (c ∷ xs) = elim (cases_Bool (c == 39)) [
  | inl e ↦ rw e (quoted-reading true xs)
  | inr e ↦ rw (e, quoted-reading false xs) (with_code-map c (unquoted false xs) (reading false xs))
]

pub reading-append : (after s : Bool) (xs ys : List ℕ) → reading after xs ≡ Some s → reading after (xs ++ ys) ≡ reading s ys
reading-append after s [] ys h = let e : after ≡ s = cc in ap (λ b. reading b ys) e
reading-append true s (c ∷ xs) ys h = elim (cases_Bool (c == 39)) [
  | inl e ↦ rw e (reading-append false s xs ys (rw e at h))
  | inr e ↦ let k : None ≡ Some s = rw e at h in absurd (cc)
]
reading-append false s (c ∷ xs) ys h = elim (cases_Bool (c == 39)) [
  | inl e ↦ rw e (reading-append true s xs ys (rw e at h))
  | inr e ↦ rw e (reading-append false s xs ys (rw e at h))
]

lexeme_of-quote : (body : List ℕ) → lexeme_of (39 ∷ body) ≡ or_else (option_map Quotation (quoted false body)) (or_else (option_map Sign (symbol (39 ∷ body))) (lexeme_of_rest (39 ∷ body)))
lexeme_of-quote body =
    let comment = is_comment-head 39 body refl in
    let run_on = is_run_on-none (39 ∷ body) (init_no_numeral 39 body refl refl) in
    rw (comment, run_on) refl

pub string_is : (body : List ℕ) (closed : Bool) → reading false body ≡ Some closed → lexeme_of (39 ∷ body) ≡ Some (Quotation (record { closed = closed; codes = unquoted false body }))
string_is body closed h = lexeme_of-quote body ∙ rw (quoted-reading false body, h) refl

unread : (xs : List ℕ) → 0 < length xs → reading false xs ≡ None → or_else (option_map Quotation (quoted false xs)) (or_else (option_map Sign (symbol (39 ∷ xs))) (lexeme_of_rest (39 ∷ xs))) ≡ None
unread [] l e = absurd (omega (arith, l))
unread (x ∷ xs) l e = let q : quoted false (x ∷ xs) ≡ None = quoted-reading false (x ∷ xs) ∙ rw e refl in rw q refl

pub string_ends : (body more : List ℕ) (c : ℕ) → reading false body ≡ Some true → (c == 39) ≡ false → lexeme_of (39 ∷ (body ++ c ∷ more)) ≡ None
string_ends body more c h k = lexeme_of-quote (body ++ c ∷ more) ∙ unread (body ++ c ∷ more) (second body more c) (reading-append false true body (c ∷ more) h ∙ rw k refl)

-- ---- comments, symbols and bytes

pub comment_is : (own : List ℕ) → is_comment own ≡ true → lexeme_of own ≡ Some Gap
comment_is own h = rw h refl

comment_goes_on : (body more : List ℕ) → lexeme_of (45 ∷ 45 ∷ (body ++ 10 ∷ more)) ≡ None
comment_goes_on body more =
    let xs : List ℕ = body ++ 10 ∷ more in
    let run_on = is_run_on-none (45 ∷ 45 ∷ xs) (init_no_numeral 45 (45 ∷ xs) refl refl) in
    none_of (45 ∷ 45 ∷ xs) (all_then_not (λ c. not (c == 10)) body more 10 refl) refl refl run_on refl (symbol-long 45 45 xs refl refl) refl

pub comment_ends : (own more : List ℕ) → is_comment own ≡ true → lexeme_of (own ++ 10 ∷ more) ≡ None
comment_ends [] more h = absurd (false≢true h)
comment_ends (a ∷ []) more h = absurd (false≢true h)
comment_ends (a ∷ b ∷ body) more h =
    let k = and_parts ((a == 45) && (b == 45)) _ h in
    let l = and_parts (a == 45) (b == 45) k.0 in
    ap₂ (λ x y. lexeme_of (x ∷ y ∷ (body ++ 10 ∷ more))) (eqb-true a 45 l.0) (eqb-true b 45 l.1) ∙ comment_goes_on body more

pair_head : (a b : ℕ) (s : Symbol) → symbol (a ∷ b ∷ []) ≡ Some s → (a ≡ 60) ⊎ (a ≡ 62)
pair_head a b s h = elim (cases_Bool (a == 60)) [
  | inl e ↦ inl (eqb-true a 60 e)
  | inr e ↦ elim (cases_Bool (a == 62)) [
    | inl k ↦ inr (eqb-true a 62 k)
    | inr k ↦ let n = symbol-long a b [] e k in absurd (cc)
  ]
]

sign_at : (own : List ℕ) (s : Symbol) → lexeme_of own ≡ or_else (option_map Sign (symbol own)) (lexeme_of_rest own) → symbol own ≡ Some s → lexeme_of own ≡ Some (Sign s)
sign_at own s e h = e ∙ rw h refl

pub pair_is : (a b : ℕ) (s : Symbol) → symbol (a ∷ b ∷ []) ≡ Some s → lexeme_of (a ∷ b ∷ []) ≡ Some (Sign s)
pair_is a b s h = elim (pair_head a b s h) [
  | inl e ↦ sign_at (a ∷ b ∷ []) s (rw e refl) h
  | inr e ↦ sign_at (a ∷ b ∷ []) s (rw e refl) h
]

pub pair_ends : (a b c : ℕ) (more : List ℕ) (s : Symbol) → symbol (a ∷ b ∷ []) ≡ Some s → lexeme_of (a ∷ b ∷ c ∷ more) ≡ None
pair_ends a b c more s h =
    let sign = symbol-longer a b c more in
    elim (pair_head a b s h) [
      | inl e ↦ none_of (a ∷ b ∷ c ∷ more) (rw e refl) (rw e refl) (rw e refl) (is_run_on-none (a ∷ b ∷ c ∷ more) (rw e refl)) (rw e refl) sign refl
      | inr e ↦ none_of (a ∷ b ∷ c ∷ more) (rw e refl) (rw e refl) (rw e refl) (is_run_on-none (a ∷ b ∷ c ∷ more) (rw e refl)) (rw e refl) sign refl
    ]

no_digit_no_numeral : (own : List ℕ) → list_any is_digit own ≡ false → is_numeral own ≡ false
no_digit_no_numeral own h = rw (h, and_false (list_all (λ c. is_digit c || (c == 46)) own)) refl

two_points : (b : ℕ) (xs : List ℕ) → is_digit b ≡ false → is_numeral (46 ∷ b ∷ xs) ≡ false
two_points b xs d = elim (cases_Bool (b == 46)) [
  | inl e ↦ and_right (list_all (λ c. is_digit c || (c == 46)) (46 ∷ b ∷ xs) && list_any is_digit (46 ∷ b ∷ xs)) _ (rw e (lt-leb _ 1 (omega arith)))
  | inr e ↦ rw (d, e) refl
]

no_numeral : (a b : ℕ) (xs : List ℕ) → begins_numeral (a ∷ b ∷ []) ≡ false → is_numeral (a ∷ b ∷ xs) ≡ false
no_numeral a b xs h =
    let k = or_parts (is_digit a) _ h in
    elim (cases_Bool (a == 46)) [
      | inl e ↦ let f : a ≡ 46 = eqb-true a 46 e in rw f (two_points b xs (rw e at k.1))
      | inr e ↦ is_numeral-head a (b ∷ xs) k.0 e
    ]

no_run_on_two : (a b : ℕ) (xs : List ℕ) → begins_numeral (a ∷ b ∷ []) ≡ false → is_numeral (init (a ∷ b ∷ xs)) ≡ false
no_run_on_two a b [] h = let k = or_parts (is_digit a) _ h in no_digit_no_numeral (a ∷ []) (or_from (is_digit a) false k.0 refl)
no_run_on_two a b (c ∷ xs) h = no_numeral a b (init (c ∷ xs)) h

symbol_of_more : (a b : ℕ) (xs : List ℕ) → symbol (a ∷ b ∷ []) ≡ None → symbol (a ∷ b ∷ xs) ≡ None
symbol_of_more a b [] h = h
symbol_of_more a b (c ∷ xs) h = symbol-longer a b c xs

pub byte_ends : (a b : ℕ) (more : List ℕ) → is_letter a ≡ false → begins_numeral (a ∷ b ∷ []) ≡ false → (a == 39) ≡ false → begins_comment (a ∷ b ∷ []) ≡ false → symbol (a ∷ b ∷ []) ≡ None → lexeme_of (a ∷ b ∷ more) ≡ None
byte_ends a b more letter numeral quote comment sign =
    none_of (a ∷ b ∷ more) (and_left ((a == 45) && (b == 45)) _ comment) (is_word-head a (b ∷ more) letter) (no_numeral a b more numeral)
    (is_run_on-none (a ∷ b ∷ more) (no_run_on_two a b more numeral)) (rw quote refl) (symbol_of_more a b more sign) refl

sign_or : (sign : Option Symbol) (other : Lexeme) → or_else (option_map Sign sign) (Some other) ≡ Some (unwrap_or (option_map Sign sign) other)
sign_or None other = refl
sign_or (Some s) other = refl

pub byte_is : (a : ℕ) → is_letter a ≡ false → is_digit a ≡ false → (a == 39) ≡ false → lexeme_of (a ∷ []) ≡ Some (lexeme_of_byte a)
byte_is a letter digit quote =
    let numeral = no_digit_no_numeral (a ∷ []) (or_from (is_digit a) false digit refl) in
    rw (letter, numeral, quote) (sign_or (symbol (a ∷ [])) _)
