-- Numbers in texts.
use Rattle.std.proofs.Common.{◌≡◌, ◌∙◌, refl, sym, ap, ℕ, zero, suc, inl, inr, ◌+◌, ◌-◌, ◌*◌, ◌^◌, ◌<◌, ◌≤◌, List, [], ◌∷◌, ◌++◌, Bool, true, false, length, get_or, take, drop, arith}
use Rattle.std.specs.Prelude.{decimal}
use Rattle.std.specs.List.{prefix_len, list_all}
use Rattle.std.specs.Str.Parse.{AllDigits, digits_value, digits_value_after}
use Rattle.std.specs.Char.{digit_value}
use Rattle.std.proofs.lemmas.Bool.{cases_Bool, leb-true, le-leb, false≢true}
use Rattle.std.proofs.lemmas.Bool.Decides.{nat_tests}
use Rattle.std.proofs.lemmas.List.{take-append-drop, drop_more}
use Rattle.std.proofs.lemmas.Fmt.{decimal_is_IsNumeral, decimal_digit, decimal_nonempty, first_decimal, decimal-digits_value}
use Rattle.std.proofs.lemmas.Str.Parse.{digit_from_value, numerals_by_value, tells_digits}
use Rattle.definitions.specs.Characters.{is_digit}
use Rattle.definitions.specs.Plans.Cost.{limit}
use Rattle.definitions.specs.Certificates.Form.{is_number}
use Rattle.definitions.proofs.CertificateTheory.Reading.{and_left, and_right}
use Rattle.certificate_syntax.specs.Words.{word_text}
use Rattle.certificate_syntax.specs.declared.words.Word.{Word}
use Rattle.certificate_syntax.specs.declared.words.Word.TheVariants as w
use Rattle.certificate_syntax.specs.Reading.{Only, IsBehindDigits, IsSplit, WordIn, NumberIn, NumberBefore, NumberBetween}
use Rattle.certificate_syntax.proofs.Sequences.{Then, Tells}

-- ---- digits and what is behind them

one_more : (n : ℕ) → 1 + n ≡ suc n
one_more n = omega arith

pub prefix_split : (text : List ℕ) → IsSplit text (take (prefix_len is_digit text) text) (drop (prefix_len is_digit text) text)
prefix_split text = (passes text, stops text, sym (take-append-drop (prefix_len is_digit text) text))
  where
    passes : (xs : List ℕ) → list_all is_digit (take (prefix_len is_digit xs) xs) ≡ true
    passes [] = refl
    passes (x ∷ xs) = elim (cases_Bool (is_digit x)) [
      | inl e ↦ rw (e, one_more (prefix_len is_digit xs), e) (passes xs)
      | inr e ↦ rw e refl
    ]

    stops : (xs : List ℕ) → is_digit (get_or (drop (prefix_len is_digit xs) xs) 0 0) ≡ false
    stops [] = refl
    stops (x ∷ xs) = elim (cases_Bool (is_digit x)) [
      | inl e ↦ rw (e, one_more (prefix_len is_digit xs)) (stops xs)
      | inr e ↦ rw e e
    ]

not_both : (b : Bool) → b ≡ true → b ≡ false → ⊥
not_both b h k = false≢true (sym k ∙ h)

pub one_split : (a r b s : List ℕ) → list_all is_digit a ≡ true → IsBehindDigits r → list_all is_digit b ≡ true → IsBehindDigits s → a ++ r ≡ b ++ s → (a ≡ b) × (r ≡ s)
one_split [] r [] s ha hr hb hs e = (refl, e)
one_split [] r (y ∷ b) s ha hr hb hs e = absurd (not_both (is_digit y) (and_left _ _ hb) (ap (λ (l : List ℕ). is_digit (get_or l 0 0)) (sym e) ∙ hr))
one_split (x ∷ a) r [] s ha hr hb hs e = absurd (not_both (is_digit x) (and_left _ _ ha) (ap (λ (l : List ℕ). is_digit (get_or l 0 0)) e ∙ hs))
one_split (x ∷ a) r (y ∷ b) s ha hr hb hs e =
    let head : x ≡ y = cc in
    let tail : a ++ r ≡ b ++ s = cc in
    let k = one_split a r b s (and_right _ _ ha) hr (and_right _ _ hb) hs tail in
    (rw (head, k.0) refl, k.1)

-- ---- decimal numbers

a_digit : (c : ℕ) → (48 ≤ c) × (c ≤ 57) → is_digit c ≡ true
a_digit c h = rw (le-leb 48 c h.0, le-leb c 57 h.1) refl

all_digits : (ds : List ℕ) → AllDigits 10 ds → list_all is_digit ds ≡ true
all_digits [] d = refl
all_digits (c ∷ ds) d = rw (a_digit c (digit_from_value c d.0)) (all_digits ds d.1)

value_small : (c : ℕ) → is_digit c ≡ true → (digit_value c < 10) × (digit_value c ≡ c - 48)
value_small c h = (grind (arith, nat_tests), grind (arith, nat_tests))

are_digits : (ds : List ℕ) → list_all is_digit ds ≡ true → AllDigits 10 ds
are_digits [] h = tt
are_digits (c ∷ ds) h = ((value_small c (and_left _ _ h)).0, are_digits ds (and_right _ _ h))

small : (n : ℕ) → is_number n ≡ true → n < 2 ^ 64
small n h = omega (arith, leb-true n limit h)

-- the digits of a text are those of the number that stands there
pub number_split : (text digits rest : List ℕ) (n : ℕ) (other : List ℕ) → IsSplit text digits rest → NumberIn text n other → (digits ≡ decimal n) × (other ≡ rest)
number_split text digits rest n other split h =
    let k = one_split digits rest (decimal n) other split.0 split.1 (all_digits (decimal n) (decimal_is_IsNumeral n (small n h.0)).0.1) h.1 (sym split.2 ∙ h.2) in
    (k.0, sym k.1)

pub no_digits : (text digits rest : List ℕ) → IsSplit text digits rest → length digits ≡ 0 → (n : ℕ) (other : List ℕ) → NumberIn text n other → ⊥
no_digits text digits rest split none n other h =
    omega (arith, decimal_nonempty n (small n h.0), ap length (number_split text digits rest n other split h).0)

pub leading_zero : (text digits rest : List ℕ) → IsSplit text digits rest → get_or digits 0 0 ≡ 48 → 2 ≤ length digits → (n : ℕ) (other : List ℕ) → NumberIn text n other → ⊥
leading_zero text digits rest split first two n other h = of_cases n (small n h.0) (number_split text digits rest n other split h).0
  where
    of_cases : (m : ℕ) → m < 2 ^ 64 → digits ≡ decimal m → ⊥
    of_cases zero lt e = omega (arith, ap length (e ∙ decimal_digit 0 (omega arith)))
    of_cases (suc m) lt e = omega (arith, first_decimal (suc m) (omega arith) lt, ap (λ (l : List ℕ). get_or l 0 0) e)

written : (n : ℕ) → is_number n ≡ true → digits_value 10 (decimal n) ≡ n
written n h = (decimal_is_IsNumeral n (small n h)).1

pub too_great : (text digits rest : List ℕ) → IsSplit text digits rest → limit < digits_value 10 digits → (n : ℕ) (other : List ℕ) → NumberIn text n other → ⊥
too_great text digits rest split great n other h =
    omega (arith, leb-true n limit h.0, written n h.0, ap (digits_value 10) (number_split text digits rest n other split h).0)

pub number_only : (text digits rest : List ℕ) (value : ℕ) → IsSplit text digits rest → 0 < length digits → (get_or digits 0 0 ≡ 48 → length digits ≡ 1)
    → value ≡ digits_value 10 digits → value ≤ limit → Only (NumberIn text) value rest
number_only text digits rest value split some plain is le =
    let e : decimal value ≡ digits = ap decimal is ∙ decimal-digits_value (numerals_by_value (AllDigits 10) tells_digits) digits (are_digits digits split.0) some plain (omega (arith, is, le)) in (
      (le-leb value limit le, split.1, split.2 ∙ ap (λ (l : List ℕ). l ++ rest) (sym e)),
      λ n other h.
          let k = number_split text digits rest n other split h in
          (sym (written n h.0) ∙ ap (digits_value 10) (sym k.0) ∙ sym is, k.1),
    )

-- ---- words around numbers

pub behind_word : (word : Word) (rest : List ℕ) → IsBehindDigits (word_text word ++ rest)
behind_word (w.Certificate version) rest = refl
behind_word w.Block rest = refl
behind_word w.Plan rest = refl
behind_word w.Target rest = refl
behind_word w.State rest = refl
behind_word w.End rest = refl
behind_word w.LineEnd rest = refl
behind_word w.Space rest = refl
behind_word w.Access rest = refl
behind_word w.Loop rest = refl
behind_word w.Merge rest = refl
behind_word w.Sort rest = refl
behind_word w.Sorted rest = refl
behind_word w.Comma rest = refl
behind_word w.Bracket rest = refl
behind_word w.Segment rest = refl
behind_word w.Index rest = refl
behind_word w.Match rest = refl
behind_word w.Point rest = refl
behind_word w.Slash rest = refl
behind_word w.Back rest = refl

pub before_tells : (word : Word) (text : List ℕ)
    → Tells (Then (NumberIn text) (λ (n : ℕ). WordIn (word_text word))) (λ (x : ℕ × Unit {0}). x.0) (NumberBefore (word_text word) text)
before_tells word text = (
  (λ x rest h. (h.1.0, h.1.2 ∙ ap (λ (l : List ℕ). decimal x.0 ++ l) h.2)),
  (λ n rest h. ((n, tt), (word_text word ++ rest, (h.0, behind_word word rest, h.1), refl), refl)),
)

pub between_tells : (before behind text : List ℕ)
    → Tells (Then (WordIn before text) (λ (u : Unit {0}). NumberBefore behind)) (λ (x : Unit {0} × ℕ). x.1) (NumberBetween before behind text)
between_tells before behind text = (
  (λ x rest h. (h.2.0, h.1 ∙ ap (λ (l : List ℕ). before ++ l) h.2.1)),
  (λ n rest h. ((tt, n), (decimal n ++ (behind ++ rest), h.1, (h.0, refl)), refl)),
)

-- ---- what digits write

value_rises : (n : ℕ) (ds : List ℕ) → n ≤ digits_value_after 10 n ds
value_rises n [] = omega arith
value_rises n (d ∷ ds) = omega (arith, value_rises (n * 10 + digit_value d) ds)

pub value_within : (digits : List ℕ) (i value total : ℕ) → i < length digits → list_all is_digit (drop i digits) ≡ true → digits_value_after 10 value (drop i digits) ≡ total
    → value * 10 + (get_or digits i 0 - 48) ≤ total
value_within digits i value total l d h =
    let c : ℕ = get_or digits i 0 in
    let e : drop i digits ≡ c ∷ drop (i + 1) digits = drop_more digits i 0 l in
    let own : is_digit c ≡ true = and_left _ _ (ap (list_all is_digit) (sym e) ∙ d) in
    let k : digits_value_after 10 (value * 10 + digit_value c) (drop (i + 1) digits) ≡ total = ap (digits_value_after 10 value) (sym e) ∙ h in
    omega (arith, value_rises (value * 10 + digit_value c) (drop (i + 1) digits), k, (value_small c own).1)
