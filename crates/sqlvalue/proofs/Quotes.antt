-- Texts up to a quote, and texts without one.
use Rattle.std.proofs.Common.{◌≡◌, ◌∙◌, refl, sym, ap, ℕ, suc, ◌+◌, ◌-◌, ◌≤◌, List, [], ◌∷◌, ◌++◌, Option, Some, None, Bool, true, false, cond, take, drop, arith}
use Rattle.std.specs.Prelude.{◌==◌}
use Rattle.std.specs.List.{position_from}
use Rattle.std.proofs.lemmas.List.{append_assoc}
use Rattle.std.proofs.lemmas.Bool.Decides.{nat_tests}
use Rattle.definitions.specs.Printing.{doubled}

-- the place of the first quote, counted from a number on
abbrev quote_from : ℕ → List ℕ → Option ℕ
quote_from i xs = position_from (λ byte. byte == 39) i xs

abbrev or_zero : Option ℕ → ℕ
or_zero (Some n) = n
or_zero None = 0

some_is : (a b : ℕ) → Some a ≡ Some b → a ≡ b
some_is a b e = ap or_zero e

not_before : (xs : List ℕ) (i at : ℕ) → quote_from i xs ≡ Some at → i ≤ at
not_before [] i at e = absurd cc
not_before (x ∷ xs) i at e =
    (elim (x == 39) as (λ b. cond b (Some i) (quote_from (i + 1) xs) ≡ Some at → i ≤ at)
    [ true ↦ (λ h. let same = some_is i at h in omega (arith, same)) | false ↦ (λ h. let rest = not_before xs (i + 1) at h in omega (arith, rest)) ]) e

one_further : (x : ℕ) (xs : List ℕ) (i at : ℕ) (b : Bool) → (x == 39) ≡ b → cond b (Some i) (quote_from (i + 1) xs) ≡ Some at
    → (quote_from (i + 1) xs ≡ Some at → doubled xs ≡ take (at + 1 - (i + 1)) xs ++ 39 ∷ doubled (drop (at + 1 - (i + 1)) xs))
    → cond b (39 ∷ 39 ∷ doubled xs) (x ∷ doubled xs) ≡ take (at + 1 - i) (x ∷ xs) ++ 39 ∷ doubled (drop (at + 1 - i) (x ∷ xs))
one_further x xs i at true is e rest =
    let here = some_is i at e in
    let one : at + 1 - i ≡ 1 = omega (arith, here) in
    let quote : x ≡ 39 = grind (arith, nat_tests) in
    rw one (ap (λ y. y ∷ 39 ∷ doubled xs) (sym quote))
one_further x xs i at false is e rest =
    let behind = not_before xs (i + 1) at e in
    let more : at + 1 - i ≡ suc (at + 1 - (i + 1)) = omega (arith, behind) in
    rw more (ap (λ r. x ∷ r) (rest e))

up_to_quote : (xs : List ℕ) (i at : ℕ) → quote_from i xs ≡ Some at → doubled xs ≡ take (at + 1 - i) xs ++ 39 ∷ doubled (drop (at + 1 - i) xs)
up_to_quote [] i at e = absurd cc
up_to_quote (x ∷ xs) i at e = one_further x xs i at (x == 39) refl e (up_to_quote xs (i + 1) at)

no_quote_from : (xs : List ℕ) (i : ℕ) → quote_from i xs ≡ None → doubled xs ≡ xs
no_quote_from [] i e = refl
no_quote_from (x ∷ xs) i e =
    (elim (x == 39) as (λ b. cond b (Some i) (quote_from (i + 1) xs) ≡ None → cond b (39 ∷ 39 ∷ doubled xs) (x ∷ doubled xs) ≡ x ∷ xs)
    [ true ↦ (λ h. absurd cc) | false ↦ (λ h. ap (λ r. x ∷ r) (no_quote_from xs (i + 1) h)) ]) e

-- a text without a quote stays as it is
pub no_quote : (xs : List ℕ) (p : Option ℕ) → p ≡ quote_from 0 xs → p ≡ None → doubled xs ≡ xs
no_quote xs p is e = no_quote_from xs 0 (sym is ∙ e)

-- what is written up to a quote, and the quote once more
pub next_run : (out all xs : List ℕ) (p : Option ℕ) (at : ℕ) → p ≡ quote_from 0 xs → p ≡ Some at → out ++ doubled xs ≡ all → ((out ++ take (at + 1) xs) ++ 39 ∷ []) ++ doubled (drop (at + 1) xs) ≡ all
next_run out all xs p at is e so_far =
    let whole : at + 1 - 0 ≡ at + 1 = omega arith in
    let run : doubled xs ≡ take (at + 1) xs ++ 39 ∷ doubled (drop (at + 1) xs) = rw whole at (up_to_quote xs 0 at (sym is ∙ e)) in
    append_assoc (out ++ take (at + 1) xs) (39 ∷ []) (doubled (drop (at + 1) xs)) ∙ append_assoc out (take (at + 1) xs) (39 ∷ doubled (drop (at + 1) xs)) ∙ ap (λ r. out ++ r) (sym run) ∙ so_far

-- the rest, which has no quote, and the quote behind it
pub last_run : (out start rest text : List ℕ) (p : Option ℕ) → p ≡ quote_from 0 rest → p ≡ None → out ++ doubled rest ≡ start ++ 39 ∷ doubled text → (out ++ rest) ++ 39 ∷ [] ≡ start ++ 39 ∷ (doubled text ++ 39 ∷ [])
last_run out start rest text p is e so_far =
    ap (λ r. (out ++ r) ++ 39 ∷ []) (sym (no_quote rest p is e)) ∙ ap (λ r. r ++ 39 ∷ []) so_far ∙ append_assoc start (39 ∷ doubled text) (39 ∷ [])
