-- Plans that are offered to a search.
use Rattle.std.proofs.Common.{zero, suc, ◌≡◌, ◌≢◌, ◌∙◌, ℕ, ◌+◌, ◌-◌, ◌^◌, ◌<◌, ◌≤◌, ◌⊎◌, inl, inr, List, [], ◌∷◌, ◌++◌, Bool, true, false, length, length-append, min, arith, refl, sym, ap}
use Rattle.std.proofs.lemmas.Bool.{cases_lt, cases_eq}
use Rattle.std.specs.Prelude.{Contains}
use Rattle.definitions.specs.Plans.Space.{Space}
use Rattle.definitions.specs.Plans.Cost.{limit}
use Rattle.join_dp.specs.Costs.{Costs, IsFoundAt, settled_of, settled_among, settled_count}
use Rattle.join_dp.specs.Searching.{Search, cost_at, IsSettled, IsAt, Waits, IsOpen, IsOffer, AreMore}
use Rattle.join_dp.specs.StatePlans.{StatePlan, told, at, IsMadeAt}
use Rattle.join_dp.specs.Steps.{Candidate}
use Rattle.join_dp.specs.Waiting.{Waiting, IsPut}
use Rattle.join_dp.proofs.Growing.{at_front, at_back, front_made, back_made}

-- ---- how many are settled

pub same_of : (f g : ℕ → Bool) → ((k : ℕ) → f k ≡ g k) → (n : ℕ) → settled_of f n ≡ settled_of g n
same_of f g same zero = refl
same_of f g same (suc n) = rw (same n, same_of f g same n) refl

pub same_among : (f g : ℕ → ℕ → Bool) → ((s k : ℕ) → f s k ≡ g s k) → (m n : ℕ) → settled_among f m n ≡ settled_among g m n
same_among f g same m zero = refl
same_among f g same m (suc n) = rw (same_of (f n) (g n) (same n) m, same_among f g same m n) refl

-- ---- more plans

pub more_same : (s : Search) → AreMore s s
more_same s = record { lower = λ t k. omega arith; settled = λ t k. refl; same = λ t k is. refl; longer = omega arith; kept = λ place lt. refl }

pub more_more : (a b c : Search) → AreMore a b → AreMore b c → AreMore a c
more_more a b c x y = record {
  lower = λ t k. let l = x.lower t k in let l' = y.lower t k in omega (arith, l, l');
  settled = λ t k. y.settled t k ∙ x.settled t k;
  same = λ t k is. y.same t k (x.settled t k ∙ is) ∙ x.same t k is;
  longer = let l = x.longer in let l' = y.longer in omega (arith, l, l');
  kept = λ place lt. let l = x.longer in y.kept place (omega (arith, lt, l)) ∙ x.kept place lt;
}

-- the state at a place, as two numbers
pub same_or_other : (t k s j : ℕ) → ((t ≡ s) × (k ≡ j)) ⊎ ((t ≢ s) ⊎ (k ≢ j))
same_or_other t k s j = of_cases (cases_eq t s) (cases_eq k j)
  where
    of_cases : (t ≡ s) ⊎ (t ≢ s) → (k ≡ j) ⊎ (k ≢ j) → ((t ≡ s) × (k ≡ j)) ⊎ ((t ≢ s) ⊎ (k ≢ j))
    of_cases (inl e) (inl f) = inl (e, f)
    of_cases (inl e) (inr f) = inr (inr f)
    of_cases (inr e) d = inr (inl e)

pub false_or_true : (b : Bool) → (b ≡ false) ⊎ (b ≡ true)
false_or_true false = inl refl
false_or_true true = inr refl

-- a step that leads to nothing new
pub stepped_open : (space : Space) (level : ℕ) (s : Search) (steps : ℕ) → length s.states ≤ steps → IsOpen space level s
    → IsOpen space level (record { states = s.states; costs = s.costs; waiting = s.waiting; steps = steps })
stepped_open space level s steps le v = record {
  sets = v.sets;
  orders = v.orders;
  made = v.made;
  inside = v.inside;
  found = v.found;
  waits = λ c p there. let w = v.waits c p there in record { within = w.within; stands = w.stands; high = w.high; low = w.low };
  low = v.low;
  counted = v.counted;
  stepped = le;
}

-- ---- a plan that costs less

module _ (space : Space) (level : ℕ) (s : Search) (tables order : ℕ) (c : Candidate) (o : IsOffer space level s tables order c) (less : c.cost < cost_at s tables order)
    (costs : Costs) (is : IsFoundAt tables order c.cost s.costs costs) (waiting : List Waiting) (put : IsPut s.waiting (c.cost, length s.states) waiting)
    (more : length waiting ≡ length s.waiting + 1) (steps : ℕ) (counted : length s.states + 1 ≤ steps) where
  abbrev added : StatePlan
  added = record { tables = tables; order = order; found = c }

  abbrev new : Search
  new = record { states = s.states ++ added ∷ []; costs = costs; waiting = waiting; steps = steps }

  v : IsOpen space level s
  v = o.is_open

  open_yet : IsSettled s tables order → ⊥
  open_yet settled = let low = (v.low tables order settled).0 in let high = o.high in omega (arith, low, high, less)

  size : length (s.states ++ added ∷ []) ≡ length s.states + 1
  size = length-append s.states (added ∷ [])

  front : (place : ℕ) → place < length s.states → at (s.states ++ added ∷ []) place ≡ at s.states place
  front place lt = at_front s.states (added ∷ []) place lt

  last : at (s.states ++ added ∷ []) (length s.states) ≡ added
  last = at_back s.states (added ∷ []) (length s.states) (omega arith) ∙ (let z : length s.states - length s.states ≡ 0 = omega arith in rw z refl)

  lower : (t k : ℕ) → costs.cost t k ≤ cost_at s t k
  lower t k = of_cases (same_or_other t k tables order)
    where
      of_cases : ((t ≡ tables) × (k ≡ order)) ⊎ ((t ≢ tables) ⊎ (k ≢ order)) → costs.cost t k ≤ cost_at s t k
      of_cases (inl (e, f)) = rw (e, f) (let h = is.here in omega (arith, h, less))
      of_cases (inr ne) = let h = is.others t k ne in omega (arith, h)

  pub offered_more : AreMore s (record { states = s.states ++ added ∷ []; costs = costs; waiting = waiting; steps = steps })
  offered_more = record {
    lower = lower;
    settled = is.settled;
    same = λ t k settled. of_cases t k settled (same_or_other t k tables order);
    longer = omega (arith, size);
    kept = front;
  }
    where
      of_cases : (t k : ℕ) → IsSettled s t k → ((t ≡ tables) × (k ≡ order)) ⊎ ((t ≢ tables) ⊎ (k ≢ order)) → costs.cost t k ≡ cost_at s t k
      of_cases t k settled (inl (e, f)) = absurd (open_yet (rw (← e, ← f) settled))
      of_cases t k settled (inr ne) = is.others t k ne

  -- a state is found at a cost, and waits if it isn't settled
  abbrev FoundAt : ℕ → ℕ → ℕ → Type 0
  FoundAt t k w = (place : ℕ) × IsAt new place t k w × (costs.settled t k ≡ false → Contains waiting (w, place))

  pub offered_open : IsOpen space level (record { states = s.states ++ added ∷ []; costs = costs; waiting = waiting; steps = steps })
  offered_open = record {
    sets = is.sets ∙ v.sets;
    orders = is.orders ∙ v.orders;
    made = λ place lt. made_at place lt (cases_lt place (length s.states));
    inside = λ place lt. inside_at place lt (cases_lt place (length s.states));
    found = λ t k known. found_at t k known (same_or_other t k tables order);
    waits = λ w p there. waits_at w p (put.no_other (w, p) there);
    low = λ t k settled. low_at t k (sym (is.settled t k) ∙ settled);
    counted = let before = v.counted in let same = same_count in omega (arith, before, same, size, more);
    stepped = omega (arith, size, counted);
  }
    where
      same_count : settled_count costs ≡ settled_count s.costs
      same_count = rw (is.sets, is.orders) (same_among costs.settled s.costs.settled is.settled s.costs.orders s.costs.sets)

      at_end : (place : ℕ) → place < length (s.states ++ added ∷ []) → length s.states ≤ place → length s.states ≡ place
      at_end place lt ge = omega (arith, lt, ge, size)

      made_at : (place : ℕ) → place < length (s.states ++ added ∷ []) → (place < length s.states) ⊎ (length s.states ≤ place) → IsMadeAt space (s.states ++ added ∷ []) place
      made_at place lt (inl less') = front_made space s.states (added ∷ []) place less' (v.made place less')
      made_at place lt (inr ge) = back_made space s.states (added ∷ []) place tables order c ge o.numbered o.made (let z : place - length s.states ≡ 0 = omega (arith, at_end place lt ge) in rw z refl)

      inside_at : (place : ℕ) → place < length (s.states ++ added ∷ []) → (place < length s.states) ⊎ (length s.states ≤ place) → (at (s.states ++ added ∷ []) place).tables < 2 ^ space.table_count
      inside_at place lt (inl less') = rw (front place less') (v.inside place less')
      inside_at place lt (inr ge) = rw (← at_end place lt ge) (rw last o.inside)

      here : FoundAt tables order c.cost
      here = (length s.states, (omega (arith, size), ap told last), λ off. put.here)

      kept : (t k : ℕ) → (place : ℕ) × IsAt s place t k (cost_at s t k) × (s.costs.settled t k ≡ false → Contains s.waiting (cost_at s t k, place)) → FoundAt t k (cost_at s t k)
      kept t k (place, (lt, e), waits) = (place, (omega (arith, lt, size), ap told (front place lt) ∙ e), λ off. put.kept _ (waits (sym (is.settled t k) ∙ off)))

      found_at : (t k : ℕ) → costs.cost t k ≤ limit → ((t ≡ tables) × (k ≡ order)) ⊎ ((t ≢ tables) ⊎ (k ≢ order)) → FoundAt t k (costs.cost t k)
      found_at t k known (inl (e, f)) = rw (e, f, is.here) here
      found_at t k known (inr ne) = let same = is.others t k ne in rw same (kept t k (v.found t k (omega (arith, known, same))))

      waits_at : (w p : ℕ) → (◌≡◌ {A = Waiting} (w, p) (c.cost, length s.states)) ⊎ Contains s.waiting (w, p) → Waits level new w p
      waits_at w p (inl e) =
          let is_w : w ≡ c.cost = ap (λ (x : Waiting). x.0) e in
          let is_p : p ≡ length s.states = ap (λ (x : Waiting). x.1) e in
          rw (is_w, is_p) (record {
            within = omega (arith, size);
            stands = ap (λ (x : StatePlan). x.found.cost) last;
            high = o.high;
            low = rw last (let h = is.here in omega (arith, h));
          })
      waits_at w p (inr there) =
          let old = v.waits w p there in
          let lt = old.within in
          record {
            within = omega (arith, lt, size);
            stands = ap (λ (x : StatePlan). x.found.cost) (front p lt) ∙ old.stands;
            high = old.high;
            low = rw (front p lt) (let l = lower (at s.states p).tables (at s.states p).order in let l' = old.low in omega (arith, l, l'));
          }

      low_at : (t k : ℕ) → IsSettled s t k → (costs.cost t k ≤ level) × (costs.cost t k ≤ limit)
      low_at t k settled =
          let l = lower t k in
          let h = v.low t k settled in
          let h0 = h.0 in
          let h1 = h.1 in
          (omega (arith, l, h0), omega (arith, l, h1))

-- a step more, and a plan
pub pushed_steps : (states more : List StatePlan) (steps steps' : ℕ) → (last : StatePlan) → length more ≡ length (states ++ last ∷ []) → length more ≤ 18446744073709551615 → length states ≤ steps → steps' ≡ min (steps + 1) 18446744073709551615
    → length states + 1 ≤ steps'
pushed_steps states more steps steps' last size few le is = omega (arith, size, length-append states (last ∷ []), few, le, is)
