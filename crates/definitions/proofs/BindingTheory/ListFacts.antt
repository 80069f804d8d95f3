-- Lists all of whose elements have a property, and lists whose elements stand at the numbers from one on.
use Rattle.std.proofs.Common.{◌≡◌, refl, ap, subst, ℕ, zero, suc, ◌+◌, ◌<◌, inl, inr, Bool, true, false, List, [], ◌∷◌, ◌++◌, Option, Some, length, map, filter, cond, arith}
use Rattle.std.specs.Prelude.{⊤, flat_map, slice_get, unwrap_or, Contains, IsTrue, IsFalse, ◌&&◌, not, count_by}
use Rattle.std.specs.List.{AllByRecursion, position_or_len}
use Rattle.std.proofs.lemmas.List.Sums.{sum_by-cons}
use Rattle.definitions.specs.Lists.{AnyOf}

-- ---- truth values

pub is_true : (b : Bool) → (IsFalse b → ⊥) → b ≡ true
is_true true h = refl
is_true false h = absurd (h refl)

pub is_false : (b : Bool) → (IsTrue b → ⊥) → b ≡ false
is_false false h = refl
is_false true h = absurd (h refl)

pub both : (a b : Bool) → a && b ≡ true → (a ≡ true) × (b ≡ true)
both true b h = (refl, h)
both false b h = absurd cc

pub together : (a b : Bool) → a ≡ true → b ≡ true → a && b ≡ true
together true b h k = k
together false b h k = absurd cc

pub negated : (b : Bool) → not b ≡ true → b ≡ false
negated false h = refl
negated true h = absurd cc

-- ---- all elements

pub each : {X : Type 0} (P Q : X → Type 0) → ((x : X) → P x → Q x) → (xs : List X) → AllByRecursion P xs → AllByRecursion Q xs
each P Q f [] h = tt
each P Q f (x ∷ xs) h = (f x h.0, each P Q f xs h.1)

pub of_two : {X : Type 0} (P Q : X → Type 0) (xs : List X) → AllByRecursion P xs → AllByRecursion Q xs → AllByRecursion (λ x. P x × Q x) xs
of_two P Q [] h k = tt
of_two P Q (x ∷ xs) h k = ((h.0, k.0), of_two P Q xs h.1 k.1)

pub none_of : {X : Type 0} (P : X → Type 0) (xs : List X) → (AnyOf P xs → ⊥) → AllByRecursion (λ x. P x → ⊥) xs
none_of P [] h = tt
none_of P (x ∷ xs) h = (λ p. h (inl p), none_of P xs (λ p. h (inr p)))

pub split : {X : Type 0} (P : X → Type 0) (xs ys : List X) → AllByRecursion P (xs ++ ys) → AllByRecursion P xs × AllByRecursion P ys
split P [] ys h = (tt, h)
split P (x ∷ xs) ys h = let s = split P xs ys h.1 in ((h.0, s.0), s.1)

pub joined : {X : Type 0} (P : X → Type 0) (xs ys : List X) → AllByRecursion P xs → AllByRecursion P ys → AllByRecursion P (xs ++ ys)
joined P [] ys h k = k
joined P (x ∷ xs) ys h k = (h.0, joined P xs ys h.1 k)

pub to_lists : {X Y : Type 0} (P : Y → Type 0) (f : X → List Y) (xs : List X) → AllByRecursion (λ x. AllByRecursion P (f x)) xs → AllByRecursion P (flat_map f xs)
to_lists P f [] h = tt
to_lists P f (x ∷ xs) h = joined P (f x) (flat_map f xs) h.0 (to_lists P f xs h.1)

pub of_map : {X Y : Type 0} (P : Y → Type 0) (f : X → Y) (xs : List X) → AllByRecursion (λ x. P (f x)) xs → AllByRecursion P (map f xs)
of_map P f [] h = tt
of_map P f (x ∷ xs) h = (h.0, of_map P f xs h.1)

kept : {X : Type 0} (P : X → Type 0) (b : Bool) (x : X) (xs : List X) → P x → AllByRecursion P xs → AllByRecursion P (cond b (x ∷ xs) xs)
kept P true x xs h k = (h, k)
kept P false x xs h k = k

pub of_filter : {X : Type 0} (P : X → Type 0) (test : X → Bool) (xs : List X) → AllByRecursion P xs → AllByRecursion P (filter test xs)
of_filter P test [] h = tt
of_filter P test (x ∷ xs) h = kept P (test x) x (filter test xs) h.0 (of_filter P test xs h.1)

none_kept : {X : Type 0} (b : Bool) (x : X) (xs : List X) → b ≡ false → xs ≡ [] → cond b (x ∷ xs) xs ≡ []
none_kept true x xs h k = absurd cc
none_kept false x xs h k = k

pub nothing_filtered : {X : Type 0} (test : X → Bool) (xs : List X) → AllByRecursion (λ x. test x ≡ false) xs → filter test xs ≡ []
nothing_filtered test [] h = refl
nothing_filtered test (x ∷ xs) h = none_kept (test x) x (filter test xs) h.0 (nothing_filtered test xs h.1)

pub filter_both : {X : Type 0} (test : X → Bool) (xs ys : List X) → filter test (xs ++ ys) ≡ filter test xs ++ filter test ys
filter_both test [] ys = refl
filter_both test (x ∷ xs) ys = step (test x) (filter test (xs ++ ys)) (filter test xs) (filter test ys) (filter_both test xs ys)
  where
    step : (b : Bool) (all some others : List _) → all ≡ some ++ others → cond b (x ∷ all) all ≡ cond b (x ∷ some) some ++ others
    step true all some others h = ap (λ l. x ∷ l) h
    step false all some others h = h

pub nothing_in_front : {X : Type 0} (xs ys : List X) → xs ++ ys ≡ [] → xs ≡ []
nothing_in_front [] ys h = refl
nothing_in_front (x ∷ xs) ys h = absurd cc

pub nothing_behind : {X : Type 0} (xs ys : List X) → xs ++ ys ≡ [] → ys ≡ []
nothing_behind [] ys h = h
nothing_behind (x ∷ xs) ys h = absurd cc

pub length_of_both : {X : Type 0} (xs ys : List X) → length (xs ++ ys) ≡ length xs + length ys
length_of_both [] ys = omega (arith)
length_of_both (x ∷ xs) ys = let h = length_of_both xs ys in omega (arith, h)

pub at : {X : Type 0} (P : X → Type 0) (xs : List X) (i : ℕ) (x : X) → AllByRecursion P xs → slice_get xs i ≡ Some x → P x
at P [] i x h e = absurd cc
at {X} P (y ∷ ys) zero x h e = subst P (ap (λ (o : Option X). unwrap_or o y) e) h.0
at P (y ∷ ys) (suc i) x h e = at P ys i x h.1 e

pub contained : {X : Type 0} (P : X → Type 0) (xs : List X) (x : X) → AllByRecursion P xs → Contains xs x → P x
contained P [] x h (i, below, is) = absurd (omega (arith, below))
contained P (y ∷ ys) x h (zero, below, is) = subst P is h.0
contained P (y ∷ ys) x h (suc i, below, is) = contained P ys x h.1 (i, omega (arith, below), is)

-- ---- elements at the numbers from one on

abbrev pub Numbered : {X : Type 0} → (ℕ → X → Type 0) → ℕ → List X → Type 0
Numbered S k [] = ⊤
Numbered S k (x ∷ xs) = S k x × Numbered S (k + 1) xs

pub numbered_both : {X : Type 0} (S : ℕ → X → Type 0) (k : ℕ) (xs ys : List X) → Numbered S k (xs ++ ys) → Numbered S k xs × Numbered S (k + length xs) ys
numbered_both S k [] ys h = (tt, let e : k ≡ k + 0 = omega arith in subst (λ n. Numbered S n ys) e h)
numbered_both S k (x ∷ xs) ys h =
    let s = numbered_both S (k + 1) xs ys h.1 in
    ((h.0, s.0), let e : k + 1 + length xs ≡ k + suc (length xs) = omega arith in subst (λ n. Numbered S n ys) e s.1)

-- its place in a list; and one behind a number
abbrev pub Stands : {X : Type 0} → List X → ℕ → X → Type 0
Stands xs k x = slice_get xs k ≡ Some x

abbrev pub Later : {X : Type 0} → List X → ℕ → ℕ → X → Type 0
Later xs n k x = (n < k) × Stands xs k x

pub numbered_later : {X : Type 0} (all : List X) (n k : ℕ) (xs : List X) → n < k → Numbered (Stands all) k xs → Numbered (Later all n) k xs
numbered_later all n k [] h s = tt
numbered_later all n k (x ∷ xs) h s = ((h, s.0), numbered_later all n (k + 1) xs (omega (arith, h)) s.1)

pub numbered_stand : {X : Type 0} (all : List X) (n k : ℕ) (xs : List X) → Numbered (Later all n) k xs → Numbered (Stands all) k xs
numbered_stand all n k [] s = tt
numbered_stand all n k (x ∷ xs) s = (s.0.1, numbered_stand all n (k + 1) xs s.1)

pub numbered_all : {X : Type 0} (P : X → Type 0) (all : List X) (k : ℕ) (xs : List X) → AllByRecursion P all → Numbered (Stands all) k xs → AllByRecursion P xs
numbered_all P all k [] h s = tt
numbered_all P all k (x ∷ xs) h s = (at P all k x h s.0, numbered_all P all (k + 1) xs h s.1)

pub numbered_none : {X : Type 0} (S : ℕ → X → Type 0) (k : ℕ) (xs : List X) → xs ≡ [] → Numbered S k xs
numbered_none S k [] h = tt
numbered_none S k (x ∷ xs) h = absurd cc

-- each element of a list stands at its number
own_numbers : {X : Type 0} (S : ℕ → X → Type 0) (k : ℕ) (xs : List X) → ((i : ℕ) (x : X) → slice_get xs i ≡ Some x → S (k + i) x) → Numbered S k xs
own_numbers S k [] f = tt
own_numbers S k (x ∷ xs) f = (
  subst (λ n. S n x) (let e : k + 0 ≡ k = omega arith in e) (f 0 x refl),
  own_numbers S (k + 1) xs (λ i y g. subst (λ n. S n y) (let e : k + suc i ≡ k + 1 + i = omega arith in e) (f (suc i) y g)),
)

pub numbers_of_list : {X : Type 0} (xs : List X) → Numbered (Stands xs) 0 xs
numbers_of_list xs = own_numbers (Stands xs) 0 xs (λ i x h. subst (λ k. Stands xs k x) (let e : i ≡ 0 + i = omega arith in e) h)

-- ---- the first element that passes a test

first_step : (b : Bool) (place size count : ℕ) → (0 < count → place < size) → 0 < cond b 1 0 + count → cond (not b) (1 + place) 0 < suc size
first_step true place size count f h = omega arith
first_step false place size count f h = let k = f (omega (arith, h)) in omega (arith, k)

pub first_is_there : {X : Type 0} (test : X → Bool) (xs : List X) → 0 < count_by test xs → position_or_len test xs < length xs
first_is_there test [] h = absurd (omega (arith, h))
first_is_there test (x ∷ xs) h =
    first_step (test x) (position_or_len test xs) (length xs) (count_by test xs) (first_is_there test xs) (rw (← sum_by-cons (λ y. cond (test y) 1 0) x xs) h)
