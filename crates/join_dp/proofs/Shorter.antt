-- A list that repeats nothing is no longer than one that has each of its elements.
use Prim.Native.Nat.{zero}
use Rattle.std.proofs.Common.{suc, ◌≡◌, ◌≢◌, ◌+◌, ◌≤◌, ◌⊎◌, inl, inr, List, [], ◌∷◌, length, arith}
use Rattle.std.specs.Prelude.{All, AllPairs, Contains}
use Rattle.std.specs.List.{AllByRecursion}
use Rattle.std.proofs.lemmas.List.Elements.{recursion_from_All}
use Rattle.definitions.proofs.PlanTheory.Elements.{first_is, later, first_or_rest, not_in_empty}
use Rattle.plan_space.proofs.Lists.{both, weaker}

module _ {K : Type 0} where
  -- all elements of a list but one are in another, which is shorter by one
  pub record IsWithout (keys : List K) (key : K) (rest : List K) : Type 0 where
    pub count : length keys ≡ length rest + 1
    pub keeps : (other : K) → Contains keys other → (key ≡ other) ⊎ Contains rest other

  first_out : (first key : K) (keys : List K) → first ≡ key → IsWithout (first ∷ keys) key keys
  first_out first key keys is = record { count = omega arith; keeps = λ other h. by_place other (first_or_rest first keys other h) }
    where
      by_place : (other : K) → (first ≡ other) ⊎ Contains keys other → (key ≡ other) ⊎ Contains keys other
      by_place other (inl e) = inl (rw (← is) e)
      by_place other (inr r) = inr r

  later_out : (first key : K) (keys rest : List K) → IsWithout keys key rest → IsWithout (first ∷ keys) key (first ∷ rest)
  later_out first key keys rest is = record { count = omega (arith, is.count); keeps = λ other h. by_place other (first_or_rest first keys other h) }
    where
      of_rest : (other : K) → (key ≡ other) ⊎ Contains rest other → (key ≡ other) ⊎ Contains (first ∷ rest) other
      of_rest other (inl e) = inl e
      of_rest other (inr r) = inr (later first rest other r)

      by_place : (other : K) → (first ≡ other) ⊎ Contains keys other → (key ≡ other) ⊎ Contains (first ∷ rest) other
      by_place other (inl e) = inr (first_is first rest other e)
      by_place other (inr r) = of_rest other (is.keeps other r)

  without : (keys : List K) (key : K) → Contains keys key → (rest : List K) × IsWithout keys key rest
  without [] key h = absurd (not_in_empty key h)
  without (first ∷ keys) key h = by_place (without keys key) (first_or_rest first keys key h)
    where
      by_place : (Contains keys key → (rest : List K) × IsWithout keys key rest) → (first ≡ key) ⊎ Contains keys key → (rest : List K) × IsWithout (first ∷ keys) key rest
      by_place further (inl e) = (keys, first_out first key keys e)
      by_place further (inr r) = let out = further r in (first ∷ out.0, later_out first key keys out.0 out.1)

  module _ {X : Type 0} (key : X → K) where
    -- each of the rest has another key than the first
    still_there : (x : X) (xs : List X) (keys rest : List K) → IsWithout keys (key x) rest → All (λ (y : X). key x ≢ key y) xs
        → AllByRecursion (λ (y : X). Contains keys (key y)) xs → AllByRecursion (λ (y : X). Contains rest (key y)) xs
    still_there x xs keys rest is differ there =
        weaker (λ (y : X). (key x ≢ key y) × Contains keys (key y)) (λ (y : X). Contains rest (key y)) xs
        (both (λ (y : X). key x ≢ key y) (λ (y : X). Contains keys (key y)) xs (recursion_from_All (λ (y : X). key x ≢ key y) xs differ) there)
        (λ y h. by_place y h.0 (is.keeps (key y) h.1))
      where
        by_place : (y : X) → key x ≢ key y → (key x ≡ key y) ⊎ Contains rest (key y) → Contains rest (key y)
        by_place y other (inl e) = absurd (other e)
        by_place y other (inr r) = r

    pub no_longer : (xs : List X) (keys : List K) → AllPairs (λ (a b : X). key a ≢ key b) xs → AllByRecursion (λ (x : X). Contains keys (key x)) xs → length xs ≤ length keys
    no_longer [] keys once there = omega arith
    no_longer (x ∷ xs) keys once (here, there) =
        let out = without keys (key x) here in
        let le = no_longer xs out.0 (λ i j d lt within. once (suc i) (suc j) d (omega (arith, lt)) (omega (arith, within)))
        (still_there x xs keys out.0 out.1 (λ k d within. once zero (suc k) d (omega arith) (omega (arith, within))) there) in
        let count = out.1.count in
        omega (arith, le, count)
