-- Elements of lists, one after another.
use Rattle.std.proofs.Common.{◌≡◌, ◌∙◌, refl, sym, ap, subst, ℕ, zero, suc, ◌+◌, ◌<◌, ◌≤◌, ◌⊎◌, inl, inr, List, [], ◌∷◌, ◌++◌, Bool, true, false, Some, None, length, get_or, take, drop, map, arith}
use Rattle.std.specs.Prelude.{All, position}
use Rattle.std.specs.List.{position_from}
use Rattle.std.proofs.lemmas.Bool.{cases_lt}
use Rattle.std.proofs.lemmas.List.{drop_all, length-map}
use Rattle.std.proofs.lemmas.Iterator.Adapters.{position_from-zero}

-- an element within a list, whatever stands for those behind it
pub same_element : {X : Type 0} (xs : List X) (i : ℕ) (d e : X) → i < length xs → get_or xs i d ≡ get_or xs i e
same_element [] i d e lt = absurd (omega (arith, lt))
same_element (x ∷ xs) zero d e lt = refl
same_element (x ∷ xs) (suc i) d e lt = same_element xs i d e (omega (arith, lt))

pub mapped_element : {X Y : Type 0} (f : X → Y) (xs : List X) (i : ℕ) (d : Y) (x : X) → i < length xs → x ≡ get_or xs i x → get_or (map f xs) i d ≡ f x
mapped_element f [] i d x lt e = absurd (omega (arith, lt))
mapped_element f (y ∷ ys) zero d x lt e = ap f (sym e)
mapped_element f (y ∷ ys) (suc i) d x lt e = mapped_element f ys i d x (omega (arith, lt)) e

pub from_element : {X : Type 0} (xs : List X) (i : ℕ) (x : X) → i < length xs → x ≡ get_or xs i x → drop i xs ≡ x ∷ drop (i + 1) xs
from_element [] i x lt e = absurd (omega (arith, lt))
from_element (y ∷ ys) zero x lt e = ap (λ z. z ∷ ys) (sym e)
from_element (y ∷ ys) (suc i) x lt e =
    let next : suc (i + 1) ≡ suc i + 1 = omega arith in
    from_element ys i x (omega (arith, lt)) e ∙ ap (λ n. x ∷ drop n (y ∷ ys)) next

pub to_element : {X : Type 0} (xs : List X) (i : ℕ) (x : X) → i < length xs → x ≡ get_or xs i x → take (i + 1) xs ≡ take i xs ++ x ∷ []
to_element [] i x lt e = absurd (omega (arith, lt))
to_element (y ∷ ys) zero x lt e = ap (λ z. z ∷ []) (sym e)
to_element (y ∷ ys) (suc i) x lt e =
    let next : suc i + 1 ≡ suc (i + 1) = omega arith in
    ap (λ n. take n (y ∷ ys)) next ∙ ap (λ zs. y ∷ zs) (to_element ys i x (omega (arith, lt)) e)

-- ---- a fact of the elements up to a place

module _ {Y : Type 0} (P : Y → Type 0) (ys : List Y) where
  abbrev pub UpTo : ℕ → Type 0
  UpTo i = (k : ℕ) (d : Y) → k < i → P (get_or ys k d)

  pub one_more : (i : ℕ) (y : Y) → ((d : Y) → get_or ys i d ≡ y) → P y → UpTo i → UpTo (i + 1)
  one_more i y e p h k d lt = of_cases (cases_lt k i)
    where
      of_cases : (k < i) ⊎ (i ≤ k) → P (get_or ys k d)
      of_cases (inl less) = h k d less
      of_cases (inr ge) = let same : k ≡ i = omega (arith, lt, ge) in subst P (sym (ap (λ n. get_or ys n d) same ∙ e d)) p

  pub all_of : (i : ℕ) → length ys ≤ i → UpTo i → All P ys
  all_of i le h k d lt = h k d (omega (arith, le, lt))

-- ---- the first place at which a test passes

module _ {X Y : Type 0} (f : X → Y) (p : Y → Bool) (xs : List X) (i : ℕ) (x : X) (lt : i < length xs) (e : x ≡ get_or xs i x) where
  pub place_found : p (f x) ≡ true → position_from p i (map f (drop i xs)) ≡ position_from p 0 (map f xs) → Some i ≡ position p (map f xs)
  place_found t w =
      let found : position_from p i (f x ∷ map f (drop (i + 1) xs)) ≡ Some i = rw t refl in
      sym found ∙ ap (λ zs. position_from p i (map f zs)) (sym (from_element xs i x lt e)) ∙ w ∙ sym (position_from-zero p (map f xs))

  pub place_passed : p (f x) ≡ false → position_from p i (map f (drop i xs)) ≡ position_from p 0 (map f xs) → position_from p (i + 1) (map f (drop (i + 1) xs)) ≡ position_from p 0 (map f xs)
  place_passed t w =
      let passed : position_from p i (f x ∷ map f (drop (i + 1) xs)) ≡ position_from p (i + 1) (map f (drop (i + 1) xs)) = rw t refl in
      sym passed ∙ ap (λ zs. position_from p i (map f zs)) (sym (from_element xs i x lt e)) ∙ w

pub place_missing : {X Y : Type 0} (f : X → Y) (p : Y → Bool) (xs : List X) (i : ℕ) → length xs ≤ i
    → position_from p i (map f (drop i xs)) ≡ position_from p 0 (map f xs) → None ≡ position p (map f xs)
place_missing f p xs i le w = ap (λ zs. position_from p i (map f zs)) (sym (drop_all i xs le)) ∙ w ∙ sym (position_from-zero p (map f xs))

-- ---- mapped lists

pub at_element : {X Y : Type 0} (P : Y → Type 0) (f : X → Y) (xs : List X) (i : ℕ) (x : X) → i < length xs → x ≡ get_or xs i x → All P (map f xs) → P (f x)
at_element P f xs i x lt e h = subst P (mapped_element f xs i (f x) x lt e) (h i (f x) (omega (arith, lt, length-map xs f)))

map_put : {X Y : Type 0} (f : X → Y) (xs : List X) (x : X) → map f (xs ++ x ∷ []) ≡ map f xs ++ f x ∷ []
map_put f [] x = refl
map_put f (y ∷ ys) x = ap (λ zs. f y ∷ zs) (map_put f ys x)

pub gathered : {X Y Z : Type 0} (f : X → Z) (g : Y → Z) (xs : List X) (i : ℕ) (x : X) (before after : List Y) (y : Y) → i < length xs → x ≡ get_or xs i x
    → after ≡ before ++ y ∷ [] → g y ≡ f x → map g before ≡ map f (take i xs) → map g after ≡ map f (take (i + 1) xs)
gathered f g xs i x before after y lt e put same w =
    ap (map g) put ∙ map_put g before y ∙ ap (λ zs. zs ++ g y ∷ []) w ∙ ap (λ z. map f (take i xs) ++ z ∷ []) same
    ∙ sym (map_put f (take i xs) x) ∙ ap (map f) (sym (to_element xs i x lt e))
