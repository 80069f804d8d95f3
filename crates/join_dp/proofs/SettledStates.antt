-- The settled states, by their sets of tables and orders.
use Rattle.std.proofs.Common.{zero, suc, ◌≡◌, ◌∙◌, ℕ, ◌+◌, ◌<◌, ◌≤◌, ◌⊎◌, inl, inr, List, [], ◌∷◌, ◌++◌, Bool, true, false, length, length-append, append_assoc, append-nil, if◌then◌else◌, add-one, arith, refl, sym, ap, subst}
use Rattle.std.proofs.lemmas.Bool.{cases_eq}
use Rattle.std.proofs.lemmas.List.Elements.{All-append, Contains-append_left, Contains-append_right, Contains-append_cases, Contains-get_or}
use Rattle.std.specs.Prelude.{Contains}
use Rattle.definitions.specs.Plans.Certificate.{StateCost, Lists, Precedes, AreRising}
use Rattle.definitions.proofs.PlanTheory.Elements.{first_is, later, first_or_rest, not_in_empty}
use Rattle.join_dp.specs.Costs.{Costs, settled_of, settled_among}
use Rattle.join_dp.specs.Listing.{states_of, states_up_to}

-- lists that rise one behind the other
pub rising_append : (xs ys : List StateCost) → AreRising xs → AreRising ys → ((x y : StateCost) → Contains xs x → Contains ys y → Precedes x y) → AreRising (xs ++ ys)
rising_append [] ys a b before = b
rising_append (x ∷ xs) ys (first, a) b before = (
  All-append (Precedes x) xs ys first (λ i d lt. before x _ (first_is x xs x refl) (Contains-get_or ys i d lt)),
  rising_append xs ys a b (λ y z there there'. before y z (later x xs y there) there'),
)

module _ (costs : Costs) where
  abbrev pub state_at : ℕ → ℕ → StateCost
  state_at t k = record { tables = t; order = k; cost = costs.cost t k }

  abbrev pub one_if : Bool → StateCost → List StateCost
  one_if b x = if b then x ∷ [] else []

  -- ---- of a set

  -- a settled state of the first sets or orders
  pub record IsSettledState (t k c : ℕ) : Type 0 where
    pub settled : costs.settled t k ≡ true
    pub cost : c ≡ costs.cost t k

  of_set : (s m t k c : ℕ) → Lists (states_of costs s m) t k c → (t ≡ s) × (k < m) × IsSettledState t k c
  of_set s zero t k c there = absurd (not_in_empty _ there)
  of_set s (suc m) t k c there = of_cases (of_set s m t k c) (Contains-append_cases (states_of costs s m) (one_if (costs.settled s m) (state_at s m)) _ there)
    where
      of_flag : (b : Bool) → costs.settled s m ≡ b → Contains (one_if b (state_at s m)) (record { tables = t; order = k; cost = c }) → (t ≡ s) × (k < suc m) × IsSettledState t k c
      of_flag false e h = absurd (not_in_empty _ h)
      of_flag true e h = of_one (first_or_rest (state_at s m) [] _ h)
        where
          of_one : (state_at s m ≡ record { tables = t; order = k; cost = c }) ⊎ Contains {X = StateCost} [] (record { tables = t; order = k; cost = c }) → (t ≡ s) × (k < suc m) × IsSettledState t k c
          of_one (inr none) = absurd (not_in_empty _ none)
          of_one (inl is) =
              let et : s ≡ t = ap (λ (x : StateCost). x.tables) is in
              let ek : m ≡ k = ap (λ (x : StateCost). x.order) is in
              let ec : costs.cost s m ≡ c = ap (λ (x : StateCost). x.cost) is in
              (sym et, omega (arith, ek), record { settled = rw (← et, ← ek) e; cost = rw (← et, ← ek) (sym ec) })

      of_cases : (Lists (states_of costs s m) t k c → (t ≡ s) × (k < m) × IsSettledState t k c) → Lists (states_of costs s m) t k c ⊎ Contains (one_if (costs.settled s m) (state_at s m)) (record { tables = t; order = k; cost = c }) → (t ≡ s) × (k < suc m) × IsSettledState t k c
      of_cases before (inl h) = let r = before h in let lt = r.1 in (r.0, omega (arith, lt), r.2)
      of_cases before (inr h) = of_flag (costs.settled s m) refl h

  in_set : (s m k : ℕ) → k < m → costs.settled s k ≡ true → Lists (states_of costs s m) s k (costs.cost s k)
  in_set s zero k lt is = absurd (omega (arith, lt))
  in_set s (suc m) k lt is = of_cases (λ less. in_set s m k less is) (cases_eq m k)
    where
      of_cases : (k < m → Lists (states_of costs s m) s k (costs.cost s k)) → (m ≡ k) ⊎ (m ≡ k → ⊥) → Lists (states_of costs s (suc m)) s k (costs.cost s k)
      of_cases before (inl e) = Contains-append_right (states_of costs s m) (one_if (costs.settled s m) (state_at s m)) _ (rw (e, is) (first_is (state_at s k) [] _ refl))
      of_cases before (inr ne) = Contains-append_left (states_of costs s m) (one_if (costs.settled s m) (state_at s m)) _ (before (omega (arith, lt, ne)))

  set_rises : (s m : ℕ) → AreRising (states_of costs s m)
  set_rises s zero = tt
  set_rises s (suc m) = rising_append (states_of costs s m) (one_if (costs.settled s m) (state_at s m)) (set_rises s m) (one_rises (costs.settled s m)) (λ x y there there'. before x y there there' (costs.settled s m) refl)
    where
      one_rises : (b : Bool) → AreRising (one_if b (state_at s m))
      one_rises false = tt
      one_rises true = ((λ i d lt. absurd (omega (arith, lt))), tt)

      before : (x y : StateCost) → Contains (states_of costs s m) x → Contains (one_if (costs.settled s m) (state_at s m)) y → (b : Bool) → costs.settled s m ≡ b → Precedes x y
      before x y there there' false e = absurd (not_in_empty y (subst (λ b. Contains (one_if b (state_at s m)) y) e there'))
      before x y there there' true e = of_one (first_or_rest (state_at s m) [] y (subst (λ b. Contains (one_if b (state_at s m)) y) e there'))
        where
          of_one : (state_at s m ≡ y) ⊎ Contains [] y → Precedes x y
          of_one (inr none) = absurd (not_in_empty y none)
          of_one (inl is) =
              let r = of_set s m x.tables x.order x.cost there in
              let lt = r.1 in
              let et : s ≡ y.tables = ap (λ (z : StateCost). z.tables) is in
              let ek : m ≡ y.order = ap (λ (z : StateCost). z.order) is in
              inr (r.0 ∙ et, omega (arith, lt, ek))

  set_size : (s m : ℕ) → length (states_of costs s m) ≡ settled_of (costs.settled s) m
  set_size s zero = refl
  set_size s (suc m) = omega (arith, length-append (states_of costs s m) (one_if (costs.settled s m) (state_at s m)), set_size s m, of_flag (costs.settled s m))
    where
      of_flag : (b : Bool) → length (one_if b (state_at s m)) ≡ (if b then 1 else 0)
      of_flag false = refl
      of_flag true = refl

  -- ---- of all sets

  pub of_sets : (end t k c : ℕ) → Lists (states_up_to costs end) t k c → (0 < t) × (t ≤ end) × (k < costs.orders) × IsSettledState t k c
  of_sets zero t k c there = absurd (not_in_empty _ there)
  of_sets (suc end) t k c there = of_cases (of_sets end t k c) (Contains-append_cases (states_up_to costs end) (states_of costs (suc end) costs.orders) _ there)
    where
      of_cases : (Lists (states_up_to costs end) t k c → (0 < t) × (t ≤ end) × (k < costs.orders) × IsSettledState t k c) → Lists (states_up_to costs end) t k c ⊎ Lists (states_of costs (suc end) costs.orders) t k c → (0 < t) × (t ≤ suc end) × (k < costs.orders) × IsSettledState t k c
      of_cases before (inl h) = let r = before h in let le = r.1 in (r.0, omega (arith, le), r.2, r.3)
      of_cases before (inr h) = let r = of_set (suc end) costs.orders t k c h in let e = r.0 in (omega (arith, e), omega (arith, e), r.1, r.2)

  pub in_sets : (end t k : ℕ) → 0 < t → t ≤ end → k < costs.orders → costs.settled t k ≡ true → Lists (states_up_to costs end) t k (costs.cost t k)
  in_sets zero t k some le lt is = absurd (omega (arith, some, le))
  in_sets (suc end) t k some le lt is = of_cases (λ less. in_sets end t k some less lt is) (cases_eq t (suc end))
    where
      of_cases : (t ≤ end → Lists (states_up_to costs end) t k (costs.cost t k)) → (t ≡ suc end) ⊎ (t ≡ suc end → ⊥) → Lists (states_up_to costs (suc end)) t k (costs.cost t k)
      of_cases before (inl e) = Contains-append_right (states_up_to costs end) (states_of costs (suc end) costs.orders) _ (rw e (in_set (suc end) costs.orders k lt (rw e at is)))
      of_cases before (inr ne) = Contains-append_left (states_up_to costs end) (states_of costs (suc end) costs.orders) _ (before (omega (arith, le, ne)))

  pub sets_rise : (end : ℕ) → AreRising (states_up_to costs end)
  sets_rise zero = tt
  sets_rise (suc end) = rising_append (states_up_to costs end) (states_of costs (suc end) costs.orders) (sets_rise end) (set_rises (suc end) costs.orders)
      (λ x y there there'.
      let a = (of_sets end x.tables x.order x.cost there).1 in
      let b = (of_set (suc end) costs.orders y.tables y.order y.cost there').0 in
      inl (omega (arith, a, b)))

  pub sets_size : (end : ℕ) → length (states_up_to costs end) ≤ settled_among costs.settled costs.orders (suc end)
  sets_size zero = omega arith
  sets_size (suc end) = omega (arith, length-append (states_up_to costs end) (states_of costs (suc end) costs.orders), set_size (suc end) costs.orders, sets_size end)

  -- ---- order after order, and set after set

  pub none_of_set : (s : ℕ) (old : List StateCost) → old ≡ old ++ states_of costs s 0
  none_of_set s old = sym (append-nil old)

  behind : (xs old front last : List StateCost) → xs ≡ old ++ front → xs ++ last ≡ old ++ (front ++ last)
  behind xs old front last e = ap (λ ys. ys ++ last) e ∙ append_assoc old front last

  pub order_settled : (s m : ℕ) (xs old : List StateCost) (x : StateCost) → x ≡ state_at s m → costs.settled s m ≡ true → xs ≡ old ++ states_of costs s m → xs ++ x ∷ [] ≡ old ++ states_of costs s (m + 1)
  order_settled s m xs old x is here_on e = rw (add-one, here_on, is) (behind xs old (states_of costs s m) (state_at s m ∷ []) e)

  pub order_passed : (s m : ℕ) (xs old : List StateCost) → costs.settled s m ≡ false → xs ≡ old ++ states_of costs s m → xs ≡ old ++ states_of costs s (m + 1)
  order_passed s m xs old off e = rw (add-one, off) (e ∙ ap (λ ys. old ++ ys) (sym (append-nil (states_of costs s m))))

  pub set_added : (t : ℕ) (xs ys : List StateCost) (s : ℕ) → s ≡ t + 1 → ys ≡ xs ++ states_of costs s costs.orders → xs ≡ states_up_to costs t → ys ≡ states_up_to costs (t + 1)
  set_added t xs ys s e f g = rw add-one (f ∙ (let e' : s ≡ suc t = omega (arith, e) in rw (e', g) refl))

  pub none_settled : (s : ℕ) (old : List StateCost) (m : ℕ) → ((k : ℕ) → costs.settled s k ≡ false) → old ≡ old ++ states_of costs s m
  none_settled s old zero off = none_of_set s old
  none_settled s old (suc m) off = rw (off m) (none_settled s old m off ∙ ap (λ ys. old ++ ys) (sym (append-nil (states_of costs s m))))
