-- Lists that an iterator gives item by item.
use Rattle.std.proofs.Common.{ℕ, suc, ◌≡◌, ◌+◌, ◌<◌, ◌≤◌, ◌⊎◌, inl, inr, List, [], ◌∷◌, length, get_or, map, refl, subst, arith}
use Rattle.std.proofs.lemmas.Bool.{cases_lt}
use Rattle.std.proofs.lemmas.List.Elements.{Contains-get_or}
use Rattle.std.specs.Prelude.{Contains}
use Rattle.std.specs.List.{AllByRecursion}
use Rattle.definitions.proofs.PlanTheory.Elements.{first_or_rest, not_in_empty, first_is, later}

-- what is left of a list has a property, and if it has another, then a claim holds
abbrev pub Leads : {X : Type 0} → (X → Type 0) → (X → Type 0) → Type 0 → List X → Type 0
Leads P Q C items = AllByRecursion P items × (AllByRecursion Q items → C)

pub one_more : (P : ℕ → Type 0) (n : ℕ) → ((t : ℕ) → t < n → P t) → P n → (t : ℕ) → t < n + 1 → P t
one_more P n all last t lt = of_cases (cases_lt t n)
  where
    of_cases : (t < n) ⊎ (n ≤ t) → P t
    of_cases (inl l) = all t l
    of_cases (inr le) = let e : n ≡ t = omega arith in subst P e last

module _ {X : Type 0} where
  pub goes_on : (P Q : X → Type 0) (C : Type 0) (items rest : List X) (x : X) → items ≡ x ∷ rest → Leads P Q C items → Q x → Leads P Q C rest
  goes_on P Q C items rest x is l q = let m = rw is at l in (m.0.1, λ all. m.1 (q, all))

  pub head_has : (P : X → Type 0) (items rest : List X) (x : X) → items ≡ x ∷ rest → AllByRecursion P items → P x
  head_has P items rest x is all = let m = rw is at all in m.0

  pub has_each : (P : X → Type 0) (xs : List X) (y : X) → AllByRecursion P xs → Contains xs y → P y
  has_each P [] y all there = absurd (not_in_empty y there)
  has_each P (x ∷ xs) y (p, all) there = by_place (has_each P xs y all) (first_or_rest x xs y there)
    where
      by_place : (Contains xs y → P y) → (x ≡ y) ⊎ Contains xs y → P y
      by_place rest (inl is) = rw is at p
      by_place rest (inr r) = rest r

  -- an element of a map is that of some element
  pub of_map : {Y : Type 0} (f : X → Y) (P : X → Type 0) (xs : List X) (y : Y) → AllByRecursion P xs → Contains (map f xs) y → (x : X) × P x × (f x ≡ y)
  of_map f P [] y all there = absurd (not_in_empty y there)
  of_map {Y} f P (x ∷ xs) y (p, all) there = by_place (of_map f P xs y all) (first_or_rest (f x) (map f xs) y there)
    where
      by_place : (Contains (map f xs) y → (x : X) × P x × (f x ≡ y)) → (f x ≡ y) ⊎ Contains (map f xs) y → (x : X) × P x × (f x ≡ y)
      by_place rest (inl is) = (x, p, is)
      by_place rest (inr r) = rest r

  pub at_index : (P : X → Type 0) (xs : List X) (d : X) → AllByRecursion P xs → (i : ℕ) → i < length xs → P (get_or xs i d)
  at_index P xs d all i lt = has_each P xs (get_or xs i d) all (Contains-get_or xs i d lt)

  pub of_index : (P : X → Type 0) (xs : List X) (d : X) → ((i : ℕ) → i < length xs → P (get_or xs i d)) → AllByRecursion P xs
  of_index P [] d all = tt
  of_index P (x ∷ xs) d all = (all 0 (omega arith), of_index P xs d (λ i lt. all (suc i) (omega (arith, lt))))

  pub weaker : (P Q : X → Type 0) (xs : List X) → AllByRecursion P xs → ((x : X) → P x → Q x) → AllByRecursion Q xs
  weaker P Q [] all f = tt
  weaker P Q (x ∷ xs) (p, all) f = (f x p, weaker P Q xs all f)

  pub both : (P Q : X → Type 0) (xs : List X) → AllByRecursion P xs → AllByRecursion Q xs → AllByRecursion (λ (x : X). P x × Q x) xs
  both P Q [] p q = tt
  both P Q (x ∷ xs) (p, ps) (q, qs) = ((p, q), both P Q xs ps qs)

  -- each element's image is in the mapped list
  pub all_mapped : {Y : Type 0} (f : X → Y) (xs : List X) → AllByRecursion (λ (x : X). Contains (map f xs) (f x)) xs
  all_mapped f [] = tt
  all_mapped {Y} f (x ∷ xs) = (first_is (f x) (map f xs) (f x) refl, weaker (λ (y : X). Contains (map f xs) (f y)) (λ (y : X). Contains (f x ∷ map f xs) (f y)) xs (all_mapped f xs) (λ y there. later (f x) (map f xs) (f y) there))
