-- Names that are added behind others, and the place of one.
use Rattle.std.proofs.Common.{◌≡◌, ◌∙◌, refl, ap, ap₂, ℕ, zero, suc, ◌+◌, ◌<◌, List, [], ◌∷◌, ◌++◌, Option, Some, Bool, false, cond, length, map, take, get_or, arith}
use Rattle.std.specs.Prelude.{◌||◌, IsFalse, IfSome, bytes_eq, position}
use Rattle.std.specs.List.{list_any, AllByRecursion, position_from}
use Rattle.std.proofs.lemmas.Cmp.{nat_list_eq_equiv}
use Rattle.std.proofs.lemmas.Iterator.Adapters.{position_from-zero}
use Rattle.std.proofs.lemmas.List.{length-map, map-append}
use Rattle.definitions.specs.Statement.{Name}
use Rattle.definitions.specs.Table.{AreDistinct}
use Rattle.catalog.proofs.Rows.{position-map}

pub same_way : (a b : Name) → bytes_eq a b ≡ bytes_eq b a
same_way a b = nat_list_eq_equiv.symm a b

-- ---- the place of a name

found_in : {X : Type 0} (named : X → Name) (name : Name) (i : ℕ) (xs : List X) → position_from (λ x. bytes_eq name (named x)) i xs ≡ position_from (λ (n : Name). bytes_eq n name) i (map named xs)
found_in named name i [] = refl
found_in named name i (x ∷ xs) = ap₂ (λ b o. cond b (Some i) o) (same_way name (named x)) (found_in named name (i + 1) xs)

-- what a set tells of its keys is so of the names
pub place_in : {X : Type 0} (named : X → Name) (keys : List X) (names : List Name) (name : Name) (o : Option ℕ) → o ≡ position (λ x. bytes_eq name (named x)) keys → map named keys ≡ names → o ≡ position_from (λ (n : Name). bytes_eq n name) 0 names
place_in named keys names name o e v =
    e ∙ position_from-zero (λ x. bytes_eq name (named x)) keys ∙ found_in named name 0 keys ∙ ap (position_from (λ (n : Name). bytes_eq n name) 0) v

pub place_within : (o : Option ℕ) (m n : ℕ) → m ≡ n → IfSome o (λ k. k < m) → IfSome o (λ k. k < n)
place_within o m n e h = rw (← e) h

-- and so of the things that are named
pub place_among : {X : Type 0} (named : X → Name) (names : List Name) (own xs : List X) (name : Name) (o : Option ℕ) → names ≡ map named own → own ≡ xs → o ≡ position_from (λ (n : Name). bytes_eq n name) 0 names → o ≡ position_from (λ x. bytes_eq (named x) name) 0 xs
place_among named names own xs name o n v e =
    e ∙ ap (position_from (λ (m : Name). bytes_eq m name) 0) (n ∙ ap (map named) v) ∙ position-map named (λ (m : Name). bytes_eq m name) 0 xs

pub within_among : {X : Type 0} (named : X → Name) (names : List Name) (own xs : List X) (o : Option ℕ) → names ≡ map named own → own ≡ xs → IfSome o (λ k. k < length names) → IfSome o (λ k. k < length xs)
within_among named names own xs o n v h = place_within o (length names) (length xs) (ap length (n ∙ ap (map named) v) ∙ length-map xs named) h

-- ---- a name more

any_mapped : {X : Type 0} (named : X → Name) (name : Name) (xs : List X) → list_any (λ x. bytes_eq name (named x)) xs ≡ list_any (bytes_eq name) (map named xs)
any_mapped named name [] = refl
any_mapped named name (x ∷ xs) = ap (λ b. bytes_eq name (named x) || b) (any_mapped named name xs)

-- a key that no other is equal to goes last
pub pushed : {X : Type 0} (named : X → Name) (keys more : List X) (x : X) (names : List Name) (name : Name) → map named keys ≡ names → named x ≡ name → IsFalse (list_any (bytes_eq name) names)
    → more ≡ cond (list_any (λ y. bytes_eq (named x) (named y)) keys) keys (keys ++ x ∷ []) → map named more ≡ names ++ name ∷ []
pushed named keys more x names name v e new add =
    let none : list_any (λ y. bytes_eq (named x) (named y)) keys ≡ false = any_mapped named (named x) keys ∙ ap₂ (λ n ns. list_any (bytes_eq n) ns) e v ∙ new in
    ap (map named) add ∙ ap (λ b. map named (cond b keys (keys ++ x ∷ []))) none ∙ map-append named keys (x ∷ []) ∙ ap₂ (λ ns n. ns ++ n ∷ []) v e

-- ---- distinct names, one after another

later_apart : {X : Type 0} (named : X → Name) (name : Name) (xs : List X) (i : ℕ) (x : X) → AllByRecursion (λ m. IsFalse (bytes_eq name m)) (map named xs) → i < length xs → x ≡ get_or xs i x → bytes_eq name (named x) ≡ false
later_apart named name [] i x a h e = absurd (omega (arith, h))
later_apart named name (y ∷ xs) zero x a h e = rw e a.0
later_apart named name (y ∷ xs) (suc i) x a h e = later_apart named name xs i x a.1 (omega (arith, h)) e

both_false : (a b : Bool) → a ≡ false → b ≡ false → (a || b) ≡ false
both_false a b h l = rw (h, l) refl

none_before : {X : Type 0} (named : X → Name) (xs : List X) (i : ℕ) (x : X) → AreDistinct (map named xs) → i < length xs → x ≡ get_or xs i x → list_any (bytes_eq (named x)) (map named (take i xs)) ≡ false
none_before named [] i x a h e = absurd (omega (arith, h))
none_before named (y ∷ xs) zero x a h e = refl
none_before named (y ∷ xs) (suc i) x a h e =
    let l : i < length xs = omega (arith, h) in
    both_false (bytes_eq (named x) (named y)) _ (same_way (named x) (named y) ∙ later_apart named (named y) xs i x a.0 l e) (none_before named xs i x a.1 l e)

-- the next name is none of those so far
pub next_is_new : {X : Type 0} (named : X → Name) (xs : List X) (i : ℕ) (x : X) (names : List Name) (name : Name) → AreDistinct (map named xs) → i < length xs → x ≡ get_or xs i x → names ≡ map named (take i xs) → name ≡ named x
    → list_any (bytes_eq name) names ≡ false
next_is_new named xs i x names name a h e s n = ap₂ (λ m ms. list_any (bytes_eq m) ms) n s ∙ none_before named xs i x a h e
