-- The numbers and texts of a script's tokens are as they can be written.
use Rattle.std.proofs.Common.{◌≡◌, refl, ap, subst, ℕ, zero, suc, ◌+◌, ◌<◌, ◌^◌, List, [], ◌∷◌, Option, Some, None, Result, Ok, Err, Bool, true, false, cond, length, arith, inl, inr}
use Rattle.std.specs.Prelude.{⊤, IsTrue, not, ◌&&◌, slice_get}
use Rattle.std.specs.List.{AllByRecursion, list_all, count_by}
use Rattle.std.specs.Char.{digit_value}
use Rattle.std.specs.Str.Parse.{AllDigits, digits_value}
use Rattle.std.proofs.lemmas.Bool.{cases_Bool, leb-true}
use Rattle.std.proofs.lemmas.Bool.Decides.{nat_tests}
use Rattle.std.proofs.lemmas.Int.Digits.{digits_value-lt}
use Rattle.std.proofs.lemmas.List.Sums.{sum_by-cons}
use Rattle.definitions.specs.Characters.{is_digit, is_printable, begins_character, character_count, folded}
use Rattle.definitions.specs.Word.{Word, reserved}
use Rattle.definitions.specs.Token.{TokenKind, Numeral, String, Mark, Token}
use Rattle.definitions.specs.Grammar.{kinds}
use Rattle.definitions.specs.Lexing.{Lexeme, Gap, Word', Number, Quotation, Sign, RunOn, Stray, LexFault, Lexes, lexeme_of, digits_of, word_kind, token_of, token_or_none, first_then, tokens_from}
use Rattle.definitions.specs.Binding.Formed.{IsWrittenNumeral, IsWrittenString}

-- ---- numbers

digit_value_small : (c : ℕ) → is_digit c ≡ true → digit_value c < 10
digit_value_small c h = grind (arith, nat_tests)

pub digits_all : (own : List ℕ) → AllDigits 10 (digits_of own)
digits_all [] = tt
digits_all (c ∷ own) = elim (cases_Bool (is_digit c)) [
  | inl e ↦ rw e (digit_value_small c e, digits_all own)
  | inr e ↦ rw e (digits_all own)
]

-- digits write less than ten to their number
pub digits_within : (own : List ℕ) → digits_value 10 (digits_of own) < 10 ^ length (digits_of own)
digits_within own = digits_value-lt 10 (digits_of own) (digits_all own)

-- ---- texts

printable_begins : (c : ℕ) → is_printable c ≡ true → begins_character c ≡ true
printable_begins c h = grind (arith, nat_tests)

both_true : (a b : Bool) → (a && b) ≡ true → (a ≡ true) × (b ≡ true)
both_true true b h = (refl, h)
both_true false b h = absurd (cc)

-- each printable byte begins a character
pub all_begin : (xs : List ℕ) → list_all is_printable xs ≡ true → count_by begins_character xs ≡ length xs
all_begin [] h = refl
all_begin (c ∷ xs) h =
    let both = both_true (is_printable c) (list_all is_printable xs) h in
    let one = ap {B = ℕ} (λ b. cond b 1 0) (printable_begins c both.0) in
    omega (arith, sum_by-cons (λ x. cond (begins_character x) 1 0) c xs, one, all_begin xs both.1)

pub all_printable : (xs : List ℕ) → list_all is_printable xs ≡ true → AllByRecursion (λ c. IsTrue (is_printable c)) xs
all_printable [] h = tt
all_printable (c ∷ xs) h = let both = both_true (is_printable c) (list_all is_printable xs) h in (both.0, all_printable xs both.1)

-- ---- tokens

abbrev pub IsRead : TokenKind → Type 0
IsRead (Numeral units digits fraction) = IsWrittenNumeral units digits
IsRead (String codes) = IsWrittenString codes
IsRead _ = ⊤

abbrev pub AreRead : List TokenKind → Type 0
AreRead ts = (k : ℕ) (t : TokenKind) → slice_get ts k ≡ Some t → IsRead t

word_read : (text : List ℕ) (w : Option Word) → IsRead (word_kind text w)
word_read text (Some w) = tt
word_read text None = tt

-- what is there only where tests hold
given : {X Y : Type 0} (b : Bool) (x : X) (f : Y) (z : X) → cond b (Ok x) (Err f) ≡ Ok z → (b ≡ true) × (x ≡ z)
given true x f z h = (refl, cc)
given false x f z h = absurd cc

all_given : {X Y : Type 0} (a b c : Bool) (x : X) (f g k : Y) (z : X) → cond (not a) (Err f) (cond (not b) (Err g) (cond c (Ok x) (Err k))) ≡ Ok z
    → (b ≡ true) × (c ≡ true) × (x ≡ z)
all_given true true true x f g k z h = (refl, refl, cc)
all_given true true false x f g k z h = absurd cc
all_given true false c x f g k z h = absurd cc
all_given false b c x f g k z h = absurd cc

never_given : {X Y : Type 0} (b : Bool) (f g : Y) (z : X) → cond b (Err f) (Err g) ≡ Ok z → ⊥
never_given true f g z h = cc
never_given false f g z h = cc

same_token : (a b : Token) → Some a ≡ Some b → IsRead a.kind → IsRead b.kind
same_token a b e h = let same : a ≡ b = cc in subst (λ (o : Token). IsRead o.kind) same h

token_read : (at : ℕ) (own : List ℕ) (l : Lexeme) (t : Token) → token_of at own l ≡ Ok (Some t) → IsRead t.kind
token_read at own Gap t h = absurd cc
token_read at own Word' t h = same_token _ t (given _ _ _ _ h).1 (word_read (folded own) (reserved (folded own)))
token_read at own Number t h =
    let (fits, is) = given _ _ _ _ h in
    let written : IsWrittenNumeral (digits_value 10 (digits_of own)) (length (digits_of own)) = (digits_within own, leb-true (length (digits_of own)) 38 fits) in
    same_token _ t is written
token_read at own RunOn t h = absurd (never_given _ _ _ _ h)
token_read at own (Quotation q) t h =
    let (few, printable, is) = all_given _ _ _ _ _ _ _ _ h in
    let written : IsWrittenString q.codes = (omega (arith, leb-true (character_count q.codes) 254 few, all_begin q.codes printable), all_printable q.codes printable) in
    same_token _ t is written
token_read at own (Sign s) t h =
    let is : Some (record { at = at; text = own; kind = Mark s }) ≡ Some t = cc in
    same_token (record { at = at; text = own; kind = Mark s }) t is tt
token_read at own Stray t h = absurd cc

or_none_read : (at : ℕ) (own : List ℕ) (o : Option Lexeme) (t : Token) → token_or_none at own o ≡ Ok (Some t) → IsRead t.kind
or_none_read at own None t h = absurd cc
or_none_read at own (Some l) t h = token_read at own l t h

abbrev AllRead : List Token → Type 0
AllRead tokens = AllByRecursion (λ (t : Token). IsRead t.kind) tokens

joined_read : (first : Result (Option Token) LexFault) (more : Result (List Token) LexFault) (tokens : List Token) → first_then first more ≡ Ok tokens
    → ((t : Token) → first ≡ Ok (Some t) → IsRead t.kind) → ((ts : List Token) → more ≡ Ok ts → AllRead ts) → AllRead tokens
joined_read (Err f) more tokens h own rest = absurd cc
joined_read (Ok None) more tokens h own rest = rest tokens h
joined_read (Ok (Some t)) (Err f) tokens h own rest = absurd cc
joined_read (Ok (Some t)) (Ok ts) tokens h own rest =
    let same : t ∷ ts ≡ tokens = cc in
    subst AllRead same (own t refl, rest ts refl)

from_read : (at : ℕ) (cut : List (List ℕ)) (tokens : List Token) → tokens_from at cut ≡ Ok tokens → AllRead tokens
from_read at [] tokens h = let none : [] ≡ tokens = cc in subst AllRead none tt
from_read at (own ∷ more) tokens h =
    joined_read (token_or_none at own (lexeme_of own)) (tokens_from (at + length own) more) tokens h
    (or_none_read at own (lexeme_of own)) (λ ts e. from_read (at + length own) more ts e)

each_read : (tokens : List Token) → AllRead tokens → AreRead (kinds tokens)
each_read [] all k t h = absurd cc
each_read (x ∷ tokens) all zero t h = let same : x.kind ≡ t = cc in subst IsRead same all.0
each_read (x ∷ tokens) all (suc k) t h = each_read tokens all.1 k t h

pub lexed_are_read : (script : List ℕ) (tokens : List Token) → Lexes script tokens → AreRead (kinds tokens)
lexed_are_read script tokens (cut, own, is) = each_read tokens (from_read 0 cut tokens is)
