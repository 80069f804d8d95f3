-- Tests that pass, and what follows from them.
use Prim.Native.Nat.{zero}
use Rattle.std.proofs.Common.{suc, sym, ◌≡◌, ℕ, ◌+◌, ◌<◌, ◌≤◌, ◌⊎◌, inl, inr, refl, List, [], ◌∷◌, Bool, true, false, Some, length, arith}
use Rattle.std.proofs.lemmas.Bool.{cases_lt, false≢true}
use Rattle.std.proofs.lemmas.Bool.Decides.{nat_tests}
use Rattle.std.proofs.lemmas.List.Elements.{All-contains}
use Rattle.std.proofs.lemmas.List.Sums.{AllPass-from_list_all}
use Rattle.std.specs.Prelude.{All, Contains, not, ◌&&◌, ◌||◌, nat_eq, nat_lt, nat_le, ◌==◌, slice_get}
use Rattle.std.specs.List.{list_all, range_with_len}
use Rattle.definitions.specs.Plans.TableSet.{TableSet, Has}
use Rattle.definitions.specs.Estimates.BlockTables.{has}

pub left_of : (a b : Bool) → (a && b) ≡ true → a ≡ true
left_of true b h = refl
left_of false b h = h

pub right_of : (a b : Bool) → (a && b) ≡ true → b ≡ true
right_of true b h = h
right_of false b h = absurd (false≢true h)

-- of two tests one passes, and the first doesn't
pub other_of : (a b : Bool) → (a || b) ≡ true → a ≡ false → b ≡ true
other_of true b h e = absurd (false≢true (sym e))
other_of false b h e = h

pub le_of : (a b : ℕ) → nat_le a b ≡ true → a ≤ b
le_of a b h = grind (arith, nat_tests, h)

pub lt_of : (a b : ℕ) → nat_lt a b ≡ true → a < b
lt_of a b h = grind (arith, nat_tests, h)

pub eq_of : (a b : ℕ) → nat_eq a b ≡ true → a ≡ b
eq_of a b h = grind (arith, nat_tests, h)

pub passes : {X : Type 0} (p : X → Bool) (xs : List X) (x : X) → list_all p xs ≡ true → Contains xs x → p x ≡ true
passes p xs x all there = All-contains (λ y. p y ≡ true) xs x (AllPass-from_list_all p xs all) there

pub all_pass : {X : Type 0} (p : X → Bool) (xs : List X) → list_all p xs ≡ true → All (λ x. p x ≡ true) xs
all_pass p xs all = AllPass-from_list_all p xs all

pub range_pass : (p : ℕ → Bool) (from count n : ℕ) → list_all p (range_with_len from count) ≡ true → from ≤ n → n < from + count → p n ≡ true
range_pass p from zero n all le lt = absurd (omega (arith, le, lt))
range_pass p from (suc count) n all le lt =
    of_cases (λ le' lt'. range_pass p (from + 1) count n (right_of (p from) _ all) le' lt') (left_of (p from) _ all) (cases_lt from n)
  where
    of_cases : (from + 1 ≤ n → n < from + 1 + count → p n ≡ true) → p from ≡ true → (from < n) ⊎ (n ≤ from) → p n ≡ true
    of_cases further first (inl more) = further (omega (arith, more)) (omega (arith, lt))
    of_cases further first (inr same) = let e : from ≡ n = omega (arith, le, same) in rw e at first

pub below_length : {X : Type 0} (xs : List X) (n : ℕ) (x : X) → slice_get xs n ≡ Some x → n < length xs
below_length [] n x e = absurd cc
below_length (y ∷ ys) zero x e = omega arith
below_length (y ∷ ys) (suc n) x e = let lt = below_length ys n x e in omega (arith, lt)

pub bit_is : (n : ℕ) → n ≡ 1 → (n == 1) ≡ true
bit_is n e = rw e refl

pub bit_is_not : (n : ℕ) → n ≡ 0 → (n == 1) ≡ false
bit_is_not n e = rw e refl

pub has_is : (tables : TableSet) (table : ℕ) → Has tables table → has tables table ≡ true
has_is tables table h = bit_is _ h

pub some_test : (a b : Bool) → a ≡ true → (a || b) ≡ true
some_test true b e = refl
some_test false b e = absurd (false≢true e)

pub second_test : (a b : Bool) → b ≡ true → (a || b) ≡ true
second_test true b e = refl
second_test false b e = e

pub both_tests : (a b : Bool) → a ≡ true → b ≡ true → (a && b) ≡ true
both_tests a b e f = rw (e, f) refl

pub not_true : (a : Bool) → a ≡ true → not a ≡ false
not_true a e = rw e refl

-- a test that all elements pass is passed by that of a number
pub at_number : {X : Type 0} (p : X → Bool) (xs : List X) (number : ℕ) (x : X) → list_all p xs ≡ true → slice_get xs number ≡ Some x → p x ≡ true
at_number p [] number x all is = absurd cc
at_number p (y ∷ ys) zero x all is = let e : y ≡ x = cc in rw e at (left_of (p y) _ all)
at_number p (y ∷ ys) (suc number) x all is = at_number p ys number x (right_of (p y) _ all) is
