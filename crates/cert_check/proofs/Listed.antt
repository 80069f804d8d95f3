-- The listed states of a certificate, one after another.
use Rattle.std.proofs.Common.{ℕ, ◌≡◌, ◌∙◌, ◌+◌, ◌^◌, ◌<◌, ◌≤◌, ◌⊎◌, inl, inr, List, [], ◌∷◌, ◌++◌, length, map, drop, get_or, Some, refl, sym, ap, subst, arith}
use Rattle.std.proofs.lemmas.Nat.{pow_pos}
use Rattle.std.proofs.lemmas.List.Elements.{All-contains, Contains-get_or}
use Rattle.std.proofs.lemmas.List.{drop_more}
use Rattle.std.specs.Prelude.{Contains}
use Rattle.definitions.specs.Plans.Space.{Space, whole}
use Rattle.definitions.specs.Plans.Certificate.{StateCost, Lists, IsListed, Precedes, AreRising, bound, IsCertificate}
use Rattle.definitions.specs.Plans.Checking.{Rule}
use Rattle.definitions.proofs.PlanTheory.Elements.{first_is, later, first_or_rest, not_in_empty}
use Rattle.definitions.proofs.PlanTheory.Exactness.{listed_cost}
use Rattle.plan_tree.specs.declared.states.State.{State}
use Rattle.plan_tree.specs.declared.states.Certificate.{Certificate as Code}
use Rattle.plan_tree.specs.Certificates.{state_of, certificate_of}
use Rattle.plan_tree.proofs.Mapped.{place_of}
use Rattle.cert_check.specs.Compared.{Compared, IsCompared}

mapped_there : (xs : List State) (s : State) → Contains xs s → Contains (map state_of xs) (state_of s)
mapped_there [] s there = absurd (not_in_empty s there)
mapped_there (x ∷ xs) s there = by_place (mapped_there xs s) (first_or_rest x xs s there)
  where
    by_place : (Contains xs s → Contains (map state_of xs) (state_of s)) → (x ≡ s) ⊎ Contains xs s → Contains (state_of x ∷ map state_of xs) (state_of s)
    by_place rest (inl is) = first_is (state_of x) (map state_of xs) (state_of s) (ap state_of is)
    by_place rest (inr r) = later (state_of x) (map state_of xs) (state_of s) (rest r)

-- a state stands before those behind it
before : (done rest : List State) (s y : State) → AreRising (map state_of (done ++ (s ∷ rest))) → Contains done y → Precedes (state_of y) (state_of s)
before [] rest s y rising there = absurd (not_in_empty y there)
before (z ∷ done) rest s y (all, rising) there = by_place (before done rest s y rising) (first_or_rest z done y there)
  where
    last : (xs : List State) → Contains (map state_of (xs ++ (s ∷ rest))) (state_of s)
    last [] = first_is (state_of s) (map state_of rest) (state_of s) refl
    last (x ∷ xs) = later (state_of x) (map state_of (xs ++ (s ∷ rest))) (state_of s) (last xs)

    by_place : (Contains done y → Precedes (state_of y) (state_of s)) → (z ≡ y) ⊎ Contains done y → Precedes (state_of y) (state_of s)
    by_place rest' (inl is) = subst (λ (x : State). Precedes (state_of x) (state_of s)) is (All-contains (Precedes (state_of z)) (map state_of (done ++ (s ∷ rest))) (state_of s) all (last done))
    by_place rest' (inr r) = rest' r

not_before_itself : (a : StateCost) → Precedes a a → ⊥
not_before_itself a (inl lt) = absurd (omega arith)
not_before_itself a (inr (same, lt)) = absurd (omega arith)

module _ (c : Code) (items : List State) (same : items ≡ c.states.items) where
  -- the state at an index, and what is left behind it
  pub there_at : (s : State) (i : ℕ) → s ≡ get_or items i s → i < length items → Contains items s
  there_at s i is lt = (i, lt, sym is)

  pub next_state : (s : State) (i : ℕ) → s ≡ get_or items i s → i < length items → drop i items ≡ s ∷ drop (i + 1) items
  next_state s i is lt = drop_more items i s lt ∙ ap (λ (x : State). x ∷ drop (i + 1) items) (sym is)

  pub listed : (s : State) → Contains items s → Lists (certificate_of c).states (state_of s).tables s.order s.cost
  listed s there = subst (λ (xs : List State). Contains (map state_of xs) (state_of s)) same (mapped_there items s there)

  pub every_listed : (P : ℕ → ℕ → Type 0) → ((i : ℕ) (d : State) → i < length items → P (state_of (get_or items i d)).tables (get_or items i d).order) → (tables order : ℕ) → IsListed (certificate_of c) tables order → P tables order
  every_listed P all tables order (cost, there) = of_place (place_of state_of items _ (subst (λ (xs : List State). Contains (map state_of xs) (record { tables = tables; order = order; cost = cost })) (sym same) there))
    where
      of_place : (d : State) × (i : ℕ) × (i < length items) × (state_of (get_or items i d) ≡ record { tables = tables; order = order; cost = cost }) → P tables order
      of_place (d, i, lt, is) = subst (λ (s : StateCost). P s.tables s.order) is (all i d lt)

  -- the state that is listed for a set of tables and an order
  pub of_listed : (tables order : ℕ) → IsListed (certificate_of c) tables order → (cost : ℕ) × (s : State) × Contains items s × (state_of s ≡ record { tables = tables; order = order; cost = cost })
  of_listed tables order (cost, there) = of_place (place_of state_of items _ (subst (λ (xs : List State). Contains (map state_of xs) (record { tables = tables; order = order; cost = cost })) (sym same) there))
    where
      of_place : (d : State) × (i : ℕ) × (i < length items) × (state_of (get_or items i d) ≡ record { tables = tables; order = order; cost = cost })
          → (cost : ℕ) × (s : State) × Contains items s × (state_of s ≡ record { tables = tables; order = order; cost = cost })
      of_place (d, i, lt, is) = (cost, get_or items i d, at items i d lt, is)
        where
          at : (xs : List State) (k : ℕ) (e : State) → k < length xs → Contains xs (get_or xs k e)
          at xs k e within = Contains-get_or xs k e within

  module _ (space : Space) (form : IsCertificate space (certificate_of c)) where
    pub listed_bound : (s : State) → Contains items s → s.cost ≡ bound (certificate_of c) (state_of s).tables s.order
    listed_bound s there = sym (listed_cost _ _ _ _ _ form.states.rising (listed s there))

    pub listed_set : (s : State) → Contains items s → (state_of s).tables < 2 ^ space.table_count
    listed_set s there =
        let h = All-contains (λ (state : StateCost). (0 < state.tables) × (state.tables ≤ whole space)) (certificate_of c).states (state_of s) form.states.tables (listed s there) in
        omega (arith, h.1, pow_pos space.table_count)

    -- ---- what begins from one listed state after another

    module _ (From : StateCost → Compared → Type 0) (begins : (from : StateCost) (x : Compared) → From from x → x.from ≡ Some from) where
      abbrev pub FromState : State → Compared → Type 0
      FromState s x = From (state_of s) x

      abbrev pub AreStates : List State → Type 0
      AreStates all = all ≡ items

      pub states_apart : (done rest : List State) (s : State) → AreStates (done ++ (s ∷ rest)) → (y : State) → Contains done y → (x : Compared) → FromState y x → FromState s x → ⊥
      states_apart done rest s are y there x of_y of_s =
          let one : Some (state_of y) ≡ Some (state_of s) = sym (begins (state_of y) x of_y) ∙ begins (state_of s) x of_s in
          let equal : state_of y ≡ state_of s = cc in
          let rising : AreRising (map state_of (done ++ (s ∷ rest))) = subst (λ (xs : List State). AreRising (map state_of xs)) (sym (are ∙ same)) form.states.rising in
          not_before_itself (state_of s) (subst (λ (a : StateCost). Precedes a (state_of s)) equal (before done rest s y rising there))

      module _ (rule : Rule) where
        pub compared_from : ((from : StateCost) → IsListed (certificate_of c) from.tables from.order → from.cost ≡ bound (certificate_of c) from.tables from.order → (x : Compared) → From from x → IsCompared space (certificate_of c) rule x)
            → (all : List State) → AreStates all → (s : State) → Contains all s → (x : Compared) → FromState s x → IsCompared space (certificate_of c) rule x
        compared_from is all are s there x of_s =
            let there' : Contains items s = subst (λ (xs : List State). Contains xs s) are there in
            is (state_of s) (s.cost, listed s there') (listed_bound s there') x of_s

        pub from_compared : ((x : Compared) → IsCompared space (certificate_of c) rule x → (tables : ℕ) × (order : ℕ) × IsListed (certificate_of c) tables order
            × From (record { tables = tables; order = order; cost = bound (certificate_of c) tables order }) x)
            → (all : List State) → AreStates all → (x : Compared) → IsCompared space (certificate_of c) rule x → (s : State) × Contains all s × FromState s x
        from_compared is all are x compared =
            let (tables, order, at, of_x) = is x compared in
            let (cost, s, there, is_s) = of_listed tables order at in
            let costs : s.cost ≡ bound (certificate_of c) tables order = listed_bound s there ∙ ap (λ (a : StateCost). bound (certificate_of c) a.tables a.order) is_s in
            let as_bound : record { tables = tables; order = order; cost = bound (certificate_of c) tables order } ≡ state_of s =
            sym (is_s ∙ ap (λ (n : ℕ). record { tables = tables; order = order; cost = n }) (sym (ap (λ (a : StateCost). a.cost) is_s) ∙ costs)) in
            (s, subst (λ (xs : List State). Contains xs s) (sym are) there, subst (λ (a : StateCost). From a x) as_bound of_x)
