-- What a text is stored as, or why it is not.
use Rattle.std.proofs.Common.{◌≡◌, ◌∙◌, refl, sym, ap, ℕ, zero, suc, ◌-◌, ◌<◌, ◌≤◌, List, [], ◌∷◌, ◌++◌, Some, true, false, length, take, drop, replicate, min, arith}
use Rattle.std.specs.Prelude.{◌==◌, IsTrue, unwrap_or}
use Rattle.std.specs.List.{list_all, AllByRecursion}
use Rattle.std.specs.Str.{IsAscii, IsUtf8}
use Rattle.std.specs.Ordering.{nat_cmp, ordering_then}
use Rattle.std.specs.declared.cmp.Ordering.{Ordering}
use Rattle.std.specs.declared.cmp.Ordering.TheVariants.{Less, Equal, Greater}
use Rattle.std.proofs.lemmas.Bool.Decides.{nat_tests}
use Rattle.std.proofs.lemmas.List.{take_min, drop_min, length-take}
use Rattle.std.proofs.lemmas.Str.{IsUtf8-from_ascii, IsAscii-take}
use Rattle.std.proofs.lemmas.Str.Ascii.{IsAscii-nil, IsAscii-cons}
use Rattle.definitions.specs.Characters.{is_printable}
use Rattle.definitions.specs.Value.{Value, Null, Number, Text, Char, text_cmp, compare, HasType}
use Rattle.columns.specs.Cells.{padded}
use Rattle.definitions.specs.Refusal.{BadText, TooLong}
use Rattle.loading.specs.Fields.{Stores, StoresNone}
use Rattle.columns.proofs.TextLists.{length-padded}
use Rattle.loading.proofs.Numerals.{both_true}

abbrev Printable : List ℕ → Type 0
Printable = AllByRecursion (λ c. IsTrue (is_printable c))

-- all codes are printable
printable_from_test : (xs : List ℕ) → list_all is_printable xs ≡ true → Printable xs
printable_from_test [] h = tt
printable_from_test (x ∷ xs) h = let (first, rest) = both_true (is_printable x) (list_all is_printable xs) h in (first, printable_from_test xs rest)

test_from_printable : (xs : List ℕ) → Printable xs → list_all is_printable xs ≡ true
test_from_printable [] h = refl
test_from_printable (x ∷ xs) h = rw h.0 (test_from_printable xs h.1)

small : (c : ℕ) → is_printable c ≡ true → c < 128
small c h = grind (arith, nat_tests)

printable_ascii : (xs : List ℕ) → Printable xs → IsAscii xs
printable_ascii [] h = IsAscii-nil
printable_ascii (x ∷ xs) h = IsAscii-cons x xs (small x h.0) (printable_ascii xs h.1)

printable_take : (n : ℕ) (xs : List ℕ) → Printable xs → Printable (take n xs)
printable_take zero xs h = tt
printable_take (suc n) [] h = tt
printable_take (suc n) (x ∷ xs) h = (h.0, printable_take n xs h.1)

printable_append : (xs ys : List ℕ) → Printable xs → Printable ys → Printable (xs ++ ys)
printable_append [] ys h k = k
printable_append (x ∷ xs) ys h k = (h.0, printable_append xs ys h.1 k)

printable_spaces : (n : ℕ) → Printable (replicate n 32)
printable_spaces zero = tt
printable_spaces (suc n) = (refl, printable_spaces n)

-- a text, cut where the rest is blank and padded, compares as equal to it
same_code : (x : ℕ) (o : Ordering) → ordering_then (nat_cmp x x) o ≡ o
same_code x o = let e : nat_cmp x x ≡ Equal = grind (arith, nat_tests) in rw e refl

blank_rest : (xs : List ℕ) → list_all (λ c. c == 32) xs ≡ true → text_cmp [] xs ≡ Equal
blank_rest [] h = refl
blank_rest (x ∷ xs) h =
    let (first, rest) = both_true (x == 32) (list_all (λ c. c == 32) xs) h in
    let e : x ≡ 32 = grind (arith, nat_tests, first) in
    rw e (blank_rest xs rest)

blanks_behind : (n : ℕ) → text_cmp (replicate n 32) [] ≡ Equal
blanks_behind zero = refl
blanks_behind (suc n) = blanks_behind n

cut_equal : (n : ℕ) (xs : List ℕ) → list_all (λ c. c == 32) (drop n xs) ≡ true → text_cmp (padded n (take n xs)) xs ≡ Equal
cut_equal zero xs h = blank_rest xs h
cut_equal (suc n) [] h = let e : suc n - 0 ≡ suc n = omega arith in rw e (blanks_behind (suc n))
cut_equal (suc n) (x ∷ xs) h =
    let e : suc n - suc (length (take n xs)) ≡ n - length (take n xs) = omega arith in
    rw e (same_code x _ ∙ cut_equal n xs h)

-- and only such a text is equal to one of the column's length
then_tied : (a b : Ordering) → ordering_then a b ≡ Equal → (a ≡ Equal) × (b ≡ Equal)
then_tied Less b h = absurd cc
then_tied Equal b h = (refl, h)
then_tied Greater b h = absurd cc

space_tied : (x : ℕ) → nat_cmp 32 x ≡ Equal → (x == 32) ≡ true
space_tied x h = grind (arith, nat_tests, h)

blank_behind : (codes xs : List ℕ) → text_cmp codes xs ≡ Equal → list_all (λ c. c == 32) (drop (length codes) xs) ≡ true
blank_behind [] [] h = refl
blank_behind [] (x ∷ xs) h =
    let (first, rest) = then_tied (nat_cmp 32 x) (text_cmp [] xs) h in
    rw (space_tied x first) (blank_behind [] xs rest)
blank_behind (c ∷ codes) [] h = refl
blank_behind (c ∷ codes) (x ∷ xs) h = blank_behind codes xs (then_tied (nat_cmp c x) (text_cmp codes xs) h).1

some_tied : (o : Ordering) → Some o ≡ Some Equal → o ≡ Equal
some_tied o h = ap (λ x. unwrap_or x Less) h

none_fits : (n : ℕ) (xs : List ℕ) (w : Value) → list_all (λ c. c == 32) (drop n xs) ≡ false → HasType (Char n) w → compare w (Text xs) ≡ Some Equal → ⊥
none_fits n xs Null h t e = absurd cc
none_fits n xs (Number u s) h t e = absurd cc
none_fits n xs (Text codes) h t e =
    let k = blank_behind codes xs (some_tied (text_cmp codes xs) e) in
    let clash : false ≡ true = sym h ∙ ap (λ m. list_all (λ c. c == 32) (drop m xs)) (sym t.0) ∙ k in cc

-- what the tests of a field say
pub stored_text : (n m : ℕ) (field kept rest : List ℕ) → m ≡ min (length field) n → list_all is_printable field ≡ true → kept ≡ take m field → rest ≡ drop m field
    → list_all (λ c. c == 32) rest ≡ true → Stores (Char n) field (Text (padded n kept))
stored_text n m field kept rest e p k r b =
    let m' : m ≡ min n (length field) = omega (arith, e) in
    let kept' : kept ≡ take n field = k ∙ ap (λ x. take x field) m' ∙ take_min n field in
    let rest' : rest ≡ drop n field = r ∙ ap (λ x. drop x field) m' ∙ drop_min n field in
    let own = printable_from_test field p in
    let blank = rw rest' at b in
    let l : length (take n field) ≤ n = omega (arith, length-take n field) in
    rw kept' (
      Text field,
      0,
      (refl, refl, own),
      ((length-padded n (take n field) l, printable_append (take n field) _ (printable_take n field own) (printable_spaces (n - length (take n field)))), ap Some (cut_equal n field blank), omega arith),
    )

pub unfit_text : (n m : ℕ) (field rest : List ℕ) → m ≡ min (length field) n → list_all is_printable field ≡ true → rest ≡ drop m field → list_all (λ c. c == 32) rest ≡ false
    → StoresNone (Char n) field TooLong
unfit_text n m field rest e p r b =
    let m' : m ≡ min n (length field) = omega (arith, e) in
    let rest' : rest ≡ drop n field = r ∙ ap (λ x. drop x field) m' ∙ drop_min n field in
    let own = printable_from_test field p in
    let blank = rw rest' at b in
    ((Text field, 0, (refl, refl, own), λ w s. none_fits n field w blank s.0 s.1), refl)

pub unwritten_text : (n : ℕ) (field : List ℕ) → list_all is_printable field ≡ false → StoresNone (Char n) field BadText
unwritten_text n field h = λ v digits w. let clash : false ≡ true = sym h ∙ test_from_printable field w.2 in cc

pub kept_utf8 : (m : ℕ) (field kept : List ℕ) → list_all is_printable field ≡ true → kept ≡ take m field → IsUtf8 kept
kept_utf8 m field kept p k = rw k (IsUtf8-from_ascii (take m field) (IsAscii-take field m (printable_ascii field (printable_from_test field p))))
