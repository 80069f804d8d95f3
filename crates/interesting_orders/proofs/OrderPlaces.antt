-- Lists and ranges of numbers, one element after another.
use Rattle.std.proofs.Common.{◌≡◌, ◌∙◌, refl, sym, ap, ℕ, zero, suc, ◌+◌, ◌-◌, ◌<◌, ◌≤◌, List, [], ◌∷◌, ◌++◌, Bool, true, false, Option, Some, None, length, get_or, drop, arith}
use Rattle.std.specs.Prelude.{slice_get, filter_map, position}
use Rattle.std.specs.List.{AllByRecursion, position_from, range_with_len}
use Rattle.std.proofs.lemmas.List.{drop_all}
use Rattle.std.proofs.lemmas.Iterator.Adapters.{position_from-zero}

pub next_number : (i n : ℕ) → i < n → range_with_len i (n - i) ≡ i ∷ range_with_len (i + 1) (n - (i + 1))
next_number i n h = let e : n - i ≡ suc (n - (i + 1)) = omega arith in ap (range_with_len i) e

put_before : {X : Type 0} (xs : List X) (x : X) (ys : List X) → (xs ++ x ∷ []) ++ ys ≡ xs ++ x ∷ ys
put_before [] x ys = refl
put_before (z ∷ zs) x ys = ap (λ rest. z ∷ rest) (put_before zs x ys)

pub all_and : {X : Type 0} (P : X → Type 0) (xs : List X) (x : X) → AllByRecursion P xs → P x → AllByRecursion P (xs ++ x ∷ [])
all_and P [] x a p = (p, tt)
all_and P (y ∷ ys) x a p = (a.0, all_and P ys x a.1 p)

pub one_of_all : {X : Type 0} (P : X → Type 0) (xs : List X) (i : ℕ) (x : X) → AllByRecursion P xs → i < length xs → x ≡ get_or xs i x → P x
one_of_all P [] i x a h e = absurd (omega (arith, h))
one_of_all P (y ∷ ys) zero x a h e = let same : x ≡ y = e in rw same a.0
one_of_all P (y ∷ ys) (suc i) x a h e = one_of_all P ys i x a.1 (omega (arith, h)) e

-- ---- numbers that are gathered

module _ (i n : ℕ) (h : i < n) where
  pub next_gathered : (before after whole : List ℕ) → after ≡ before ++ i ∷ [] → before ++ range_with_len i (n - i) ≡ whole → after ++ range_with_len (i + 1) (n - (i + 1)) ≡ whole
  next_gathered before after whole e w =
      ap (λ xs. xs ++ range_with_len (i + 1) (n - (i + 1))) e ∙ put_before before i (range_with_len (i + 1) (n - (i + 1))) ∙ ap (λ xs. before ++ xs) (sym (next_number i n h)) ∙ w

  module _ (f : ℕ → Option ℕ) (before whole : List ℕ) (w : before ++ filter_map f (range_with_len i (n - i)) ≡ whole) where
    here : before ++ filter_map f (i ∷ range_with_len (i + 1) (n - (i + 1))) ≡ whole
    here = ap (λ xs. before ++ filter_map f xs) (sym (next_number i n h)) ∙ w

    pub next_given : (after : List ℕ) (x : ℕ) → f i ≡ Some x → after ≡ before ++ x ∷ [] → after ++ filter_map f (range_with_len (i + 1) (n - (i + 1))) ≡ whole
    next_given after x g e =
        let rest = filter_map f (range_with_len (i + 1) (n - (i + 1))) in
        let given : filter_map f (i ∷ range_with_len (i + 1) (n - (i + 1))) ≡ x ∷ rest = rw g refl in
        ap (λ xs. xs ++ rest) e ∙ put_before before x rest ∙ ap (λ xs. before ++ xs) (sym given) ∙ here

    pub none_given : f i ≡ None → before ++ filter_map f (range_with_len (i + 1) (n - (i + 1))) ≡ whole
    none_given g =
        let given : filter_map f (i ∷ range_with_len (i + 1) (n - (i + 1))) ≡ filter_map f (range_with_len (i + 1) (n - (i + 1))) = rw g refl in
        ap (λ xs. before ++ xs) (sym given) ∙ here

-- ---- the first place at which a test passes

from_place : {X : Type 0} (xs : List X) (i : ℕ) (x : X) → slice_get xs i ≡ Some x → drop i xs ≡ x ∷ drop (i + 1) xs
from_place [] zero x e = absurd cc
from_place [] (suc i) x e = absurd cc
from_place (y ∷ ys) zero x e = let same : y ≡ x = cc in ap (λ z. z ∷ ys) same
from_place (y ∷ ys) (suc i) x e = let next : suc (i + 1) ≡ suc i + 1 = omega arith in from_place ys i x e ∙ ap (λ n. x ∷ drop n (y ∷ ys)) next

module _ {X : Type 0} (p : X → Bool) (xs : List X) (i : ℕ) where
  pub position_found : (x : X) → slice_get xs i ≡ Some x → p x ≡ true → position_from p i (drop i xs) ≡ position_from p 0 xs → Some i ≡ position p xs
  position_found x e t w =
      let found : position_from p i (x ∷ drop (i + 1) xs) ≡ Some i = rw t refl in
      sym found ∙ ap (position_from p i) (sym (from_place xs i x e)) ∙ w ∙ sym (position_from-zero p xs)

  pub position_further : (x : X) → slice_get xs i ≡ Some x → p x ≡ false → position_from p i (drop i xs) ≡ position_from p 0 xs → position_from p (i + 1) (drop (i + 1) xs) ≡ position_from p 0 xs
  position_further x e t w =
      let passed : position_from p i (x ∷ drop (i + 1) xs) ≡ position_from p (i + 1) (drop (i + 1) xs) = rw t refl in
      sym passed ∙ ap (position_from p i) (sym (from_place xs i x e)) ∙ w

  pub position_none : length xs ≤ i → position_from p i (drop i xs) ≡ position_from p 0 xs → None ≡ position p xs
  position_none h w = ap (position_from p i) (sym (drop_all i xs h)) ∙ w ∙ sym (position_from-zero p xs)
