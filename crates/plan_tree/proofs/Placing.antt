-- Where a state stands in a list that rises.
use Prim.Native.Nat.{zero}
use Rattle.std.proofs.Common.{suc, sym, subst, ◌≡◌, ℕ, ◌<◌, ◌≤◌, ◌⊎◌, inl, inr, List, [], ◌∷◌, length, get_or, map, true, false, arith, rules}
use Rattle.std.proofs.lemmas.Bool.{cases_lt}
use Rattle.std.proofs.lemmas.Bool.Decides.{nat_tests}
use Rattle.std.proofs.lemmas.List.{get_or-map, length-map}
use Rattle.definitions.specs.Plans.Certificate.{StateCost, Lists, listed_or, Precedes, AreRising}
use Rattle.definitions.proofs.PlanTheory.Bounds.{bound_cases}
use Rattle.definitions.proofs.PlanTheory.Exactness.{listed_cost}
use Rattle.plan_tree.specs.Preceding.{precedes, is_at}
use Rattle.plan_tree.proofs.Mapped.{at_place, place_of}

precedes_it : (x y : StateCost) (s k : ℕ) → Precedes x y → is_at s k y ≡ true → precedes s k x ≡ true
precedes_it x y s k (inl lt) at = grind (arith, nat_tests)
precedes_it x y s k (inr (e, lt)) at = grind (arith, nat_tests)

not_itself : (x : StateCost) (s k : ℕ) → is_at s k x ≡ true → precedes s k x ≡ true → ⊥
not_itself x s k at before = grind (arith, nat_tests)

-- a state precedes those that precede a state which precedes another
precedes_on : (x y : StateCost) (s k : ℕ) → Precedes x y → precedes s k y ≡ true → precedes s k x ≡ true
precedes_on x y s k (inl lt) at = grind (arith, nat_tests)
precedes_on x y s k (inr (e, lt)) at = grind (arith, nat_tests)

module _ {X : Type 0} (f : X → StateCost) where
  -- of two that rise the first precedes
  pub rising_at : (xs : List X) → AreRising (map f xs) → (i j : ℕ) (d : X) → i < j → j < length xs → Precedes (f (get_or xs i d)) (f (get_or xs j d))
  rising_at [] r i j d lt within = absurd (omega arith)
  rising_at (x ∷ xs) (all, r) i zero d lt within = absurd (omega arith)
  rising_at (x ∷ xs) (all, r) zero (suc j) d lt within = subst (Precedes (f x)) (get_or-map f xs j d (f d) (omega arith)) (all j (f d) (omega (arith, length-map xs f)))
  rising_at (x ∷ xs) (all, r) (suc i) (suc j) d lt within = rising_at xs r i j d (omega arith) (omega arith)

  pub parted : (xs : List X) (s k : ℕ) → AreRising (map f xs) → (i j : ℕ) (d : X) → i ≤ j → j < length xs → precedes s k (f (get_or xs j d)) ≡ true → precedes s k (f (get_or xs i d)) ≡ true
  parted xs s k rising i j d le within before = of_cases (cases_lt i j)
    where
      of_cases : (i < j) ⊎ (j ≤ i) → precedes s k (f (get_or xs i d)) ≡ true
      of_cases (inl lt) = precedes_on (f (get_or xs i d)) (f (get_or xs j d)) s k (rising_at xs rising i j d lt within) before
      of_cases (inr ge) = let e : i ≡ j = omega arith in subst (λ n. precedes s k (f (get_or xs n d)) ≡ true) (sym e) before

  module _ (target : ℕ) (xs : List X) (s k place : ℕ) (rising : AreRising (map f xs)) where
    -- the state at the place is listed
    pub placed : (d : X) → place < length xs → is_at s k (f (get_or xs place d)) ≡ true → (f (get_or xs place d)).cost ≡ listed_or target (map f xs) s k
    placed d within at = sym (listed_cost target (map f xs) s k (f (get_or xs place d)).cost rising there)
      where
        tables : (f (get_or xs place d)).tables ≡ s
        tables = grind (arith, nat_tests)

        order : (f (get_or xs place d)).order ≡ k
        order = grind (arith, nat_tests)

        there : Lists (map f xs) s k (f (get_or xs place d)).cost
        there = let t = at_place f xs d place within in rw (← tables, ← order) t

    -- where it isn't the state that is looked for, that isn't listed
    pub unplaced : ((i : ℕ) (d : X) → 0 ≤ i → i < place → precedes s k (f (get_or xs i d)) ≡ true)
        → ((i : ℕ) (d : X) → place ≤ i → i < length xs → precedes s k (f (get_or xs i d)) ≡ false)
        → ((d : X) → place < length xs → is_at s k (f (get_or xs place d)) ≡ false) → target ≡ listed_or target (map f xs) s k
    unplaced before behind other = of_cases (bound_cases target (map f xs) s k)
      where
        it_is : (x : StateCost) (w : ℕ) → x ≡ record { tables = s; order = k; cost = w } → is_at s k x ≡ true
        it_is x w e = rw e (search rules)

        at_index : (d : X) (i : ℕ) → i < length xs → is_at s k (f (get_or xs i d)) ≡ true → (i < place) ⊎ (place ≤ i) → (place < i) ⊎ (i ≤ place) → ⊥
        at_index d i lt is (inl less) order = not_itself (f (get_or xs i d)) s k is (before i d (omega arith) less)
        at_index d i lt is (inr ge) (inl more) =
            let b = precedes_it (f (get_or xs place d)) (f (get_or xs i d)) s k (rising_at xs rising place i d more lt) is in
            let b' = behind place d (omega arith) (omega arith) in
            absurd cc
        at_index d i lt is (inr ge) (inr le) =
            let e : i ≡ place = omega arith in
            let o = other d (omega arith) in
            let is' = subst (λ n. is_at s k (f (get_or xs n d)) ≡ true) e is in
            absurd cc

        of_cases : Lists (map f xs) s k (listed_or target (map f xs) s k) ⊎ (listed_or target (map f xs) s k ≡ target) → target ≡ listed_or target (map f xs) s k
        of_cases (inl there) =
            let it = place_of f xs _ there in
            absurd (at_index it.0 it.1 it.2 (it_is _ _ it.3) (cases_lt it.1 place) (cases_lt place it.1))
        of_cases (inr is) = sym is
