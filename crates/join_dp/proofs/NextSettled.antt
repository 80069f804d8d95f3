-- The cheapest state that waits.
use Rattle.std.proofs.Common.{zero, suc, ◌≡◌, ◌≢◌, ◌∙◌, ℕ, ◌+◌, ◌<◌, ◌≤◌, ◌⊎◌, inl, inr, List, [], Bool, true, false, length, arith, refl, sym, ap, subst}
use Rattle.std.proofs.lemmas.Bool.{cases_eq}
use Rattle.std.proofs.lemmas.List.Elements.{All-contains}
use Rattle.std.specs.Prelude.{Contains}
use Rattle.definitions.specs.Plans.Space.{Space}
use Rattle.definitions.specs.Plans.Cost.{limit}
use Rattle.definitions.specs.Plans.Certificate.{StateCost}
use Rattle.definitions.proofs.PlanTheory.Elements.{not_in_empty}
use Rattle.join_dp.specs.Costs.{Costs, IsSettledAt, settled_of, settled_among, settled_count}
use Rattle.join_dp.specs.Searching.{Search, cost_at, IsSettled, IsAt, Waits, IsOpen, AreSlotted, IsNext}
use Rattle.join_dp.specs.StatePlans.{at}
use Rattle.join_dp.specs.Waiting.{Waiting, IsTaken}
use Rattle.join_dp.proofs.Offering.{same_or_other, false_or_true}

-- ---- one more is settled

same_below : (f g : ℕ → Bool) (n : ℕ) → ((j : ℕ) → j < n → g j ≡ f j) → settled_of g n ≡ settled_of f n
same_below f g zero same = refl
same_below f g (suc n) same = rw (same n (omega arith), same_below f g n (λ j lt. same j (omega (arith, lt)))) refl

pub one_of : (f g : ℕ → Bool) (k n : ℕ) → k < n → f k ≡ false → g k ≡ true → ((j : ℕ) → j ≢ k → g j ≡ f j) → settled_of g n ≡ settled_of f n + 1
one_of f g k zero lt off here_on others = absurd (omega (arith, lt))
one_of f g k (suc n) lt off here_on others = of_cases (cases_eq n k) (λ less. one_of f g k n less off here_on others)
  where
    of_cases : (n ≡ k) ⊎ (n ≢ k) → (k < n → settled_of g n ≡ settled_of f n + 1) → settled_of g (suc n) ≡ settled_of f (suc n) + 1
    of_cases (inl e) rest =
        let before = same_below f g n (λ j lt'. others j (λ is. absurd (omega (arith, lt', is, e)))) in
        let b : settled_of g k ≡ settled_of f k = rw e at before in
        rw (e, off, here_on) (omega (arith, b))
    of_cases (inr ne) rest = let r = rest (omega (arith, lt, ne)) in rw (others n ne, r) (omega arith)

sums_below : (f g : ℕ → ℕ → Bool) (m n : ℕ) → ((s : ℕ) → s < n → (j : ℕ) → g s j ≡ f s j) → settled_among g m n ≡ settled_among f m n
sums_below f g m zero same = refl
sums_below f g m (suc n) same = rw (same_below (f n) (g n) m (λ j lt. same n (omega arith) j), sums_below f g m n (λ s lt j. same s (omega (arith, lt)) j)) refl

pub one_among : (f g : ℕ → ℕ → Bool) (s k m n : ℕ) → s < n → k < m → f s k ≡ false → g s k ≡ true → ((t j : ℕ) → (t ≢ s) ⊎ (j ≢ k) → g t j ≡ f t j) → settled_among g m n ≡ settled_among f m n + 1
one_among f g s k m zero lt less off here_on others = absurd (omega (arith, lt))
one_among f g s k m (suc n) lt less off here_on others = of_cases (cases_eq n s) (λ lt'. one_among f g s k m n lt' less off here_on others)
  where
    of_cases : (n ≡ s) ⊎ (n ≢ s) → (s < n → settled_among g m n ≡ settled_among f m n + 1) → settled_among g m (suc n) ≡ settled_among f m (suc n) + 1
    of_cases (inl e) rest =
        let before = sums_below f g m n (λ t lt' j. others t j (inl (λ is. absurd (omega (arith, lt', is, e))))) in
        let here : settled_of (g n) m ≡ settled_of (f n) m + 1 = one_of (f n) (g n) k m less (rw e off) (rw e here_on) (λ j ne. others n j (inr ne)) in
        omega (arith, before, here)
    of_cases (inr ne) rest =
        let r = rest (omega (arith, lt, ne)) in
        let here : settled_of (g n) m ≡ settled_of (f n) m = same_below (f n) (g n) m (λ j lt'. others n j (inl ne)) in
        omega (arith, r, here)

pub both_flags : (b : Bool) → b ≡ false → b ≡ true → ⊥
both_flags b off here_on = let e : true ≡ false = sym here_on ∙ off in absurd cc

module _ (s : Search) (waiting : List Waiting) (w place : ℕ) (t : IsTaken s.waiting (w, place) waiting) (less : length waiting + 1 ≡ length s.waiting) where
  abbrev rest : Search
  rest = record { states = s.states; costs = s.costs; waiting = waiting; steps = s.steps }

  pub slotted_rest : AreSlotted s → AreSlotted (record { states = s.states; costs = s.costs; waiting = waiting; steps = s.steps })
  slotted_rest a = record {
    within = λ c p there. a.within c p (t.were _ there);
    sets = λ c p there. a.sets c p (t.were _ there);
    orders = λ c p there. a.orders c p (t.were _ there);
    found = λ c p there. a.found c p (t.were _ there);
  }

  -- what waits at another state than that of the place stays
  stays : (c p : ℕ) → Contains s.waiting (c, p) → (p ≡ place → ⊥) → Contains waiting (c, p)
  stays c p there ne = of_cases (t.others (c, p) there)
    where
      of_cases : (◌≡◌ {A = Waiting} (c, p) (w, place)) ⊎ Contains waiting (c, p) → Contains waiting (c, p)
      of_cases (inl e) = absurd (ne (ap (λ (x : Waiting). x.1) e))
      of_cases (inr r) = r

  module _ (space : Space) (level : ℕ) (v : IsOpen space level s) where
    -- is let go, where it is settled
    pub skipped : IsSettled s (at s.states place).tables (at s.states place).order → IsOpen space level (record { states = s.states; costs = s.costs; waiting = waiting; steps = s.steps })
    skipped is = record {
      sets = v.sets;
      orders = v.orders;
      made = v.made;
      inside = v.inside;
      found = λ t k known. let f = v.found t k known in (f.0, f.1, λ off. stays _ f.0 (f.2 off) (λ e. not_it t k f.0 f.1 off e));
      waits = λ c p there. let x = v.waits c p (t.were _ there) in record { within = x.within; stands = x.stands; high = x.high; low = x.low };
      low = v.low;
      counted = let c = v.counted in omega (arith, c, less);
      stepped = v.stepped;
    }
      where
        not_it : (t k p : ℕ) → IsAt s p t k (cost_at s t k) → s.costs.settled t k ≡ false → p ≡ place → ⊥
        not_it t k p a off e =
            let told_is = a.1 in
            let tables : (at s.states place).tables ≡ t = subst (λ n. (at s.states n).tables ≡ t) e (ap (λ (x : StateCost). x.tables) told_is) in
            let order : (at s.states place).order ≡ k = subst (λ n. (at s.states n).order ≡ k) e (ap (λ (x : StateCost). x.order) told_is) in
            both_flags (s.costs.settled t k) off (rw (← tables, ← order) is)

    module _ (off : s.costs.settled (at s.states place).tables (at s.states place).order ≡ false) (costs : Costs) (is : IsSettledAt (at s.states place).tables (at s.states place).order s.costs costs) where
      abbrev tables : ℕ
      tables = (at s.states place).tables

      abbrev order : ℕ
      order = (at s.states place).order

      here : Waits level s w place
      here = v.waits w place t.was

      small : w ≤ limit
      small = let m = (v.made place here.within).small in let e = here.stands in omega (arith, m, e)

      -- it stands there at its cost
      cost_is : cost_at s (at s.states place).tables (at s.states place).order ≡ w
      cost_is =
          let low = here.low in
          let f = v.found (at s.states place).tables (at s.states place).order (omega (arith, low, small)) in
          let least = All-contains (λ (x : Waiting). w ≤ x.0) s.waiting _ t.least (f.2 off) in
          omega (arith, low, least)

      inside : (at s.states place).tables < s.costs.sets
      inside = let i = v.inside place here.within in let e = v.sets in omega (arith, i, e)

      numbered : (at s.states place).order < s.costs.orders
      numbered = let i = (v.made place here.within).numbered in let e = v.orders in omega (arith, i, e)

      -- and is settled, where it isn't
      pub settles : IsNext space level place s (record { states = s.states; costs = costs; waiting = waiting; steps = s.steps })
      settles = record {
        is_open = record {
          sets = is.sets ∙ v.sets;
          orders = is.orders ∙ v.orders;
          made = v.made;
          inside = v.inside;
          found = λ t k known. found_at t k known;
          waits = λ c p there. waits_at c p there;
          low = λ t k here_on. low_at t k here_on (same_or_other t k tables order);
          counted = let c = v.counted in let more = one_more in omega (arith, c, less, more);
          stepped = v.stepped;
        };
        states = refl;
        within = here.within;
        rises = let h = here.high in let e = here.stands in omega (arith, h, e);
        cost = is.costs tables order ∙ cost_is ∙ sym here.stands;
        was_not = off;
        settled = is;
        steps = refl;
      }
        where
          one_more : settled_count costs ≡ settled_count s.costs + 1
          one_more = rw (is.sets, is.orders) (one_among s.costs.settled costs.settled tables order s.costs.orders s.costs.sets inside numbered off is.here is.others)

          was_no : (t k : ℕ) → costs.settled t k ≡ false → s.costs.settled t k ≡ false
          was_no t k none' = of_cases (same_or_other t k tables order)
            where
              of_cases : ((t ≡ tables) × (k ≡ order)) ⊎ ((t ≢ tables) ⊎ (k ≢ order)) → s.costs.settled t k ≡ false
              of_cases (inl (e, f)) = absurd (both_flags (costs.settled t k) none' (rw (e, f) is.here))
              of_cases (inr ne) = sym (is.others t k ne) ∙ none'

          not_it : (t k p : ℕ) → IsAt s p t k (cost_at s t k) → costs.settled t k ≡ false → p ≡ place → ⊥
          not_it t k p a none' e =
              let told_is = a.1 in
              let e_tables : (at s.states place).tables ≡ t = subst (λ n. (at s.states n).tables ≡ t) e (ap (λ (x : StateCost). x.tables) told_is) in
              let e_order : (at s.states place).order ≡ k = subst (λ n. (at s.states n).order ≡ k) e (ap (λ (x : StateCost). x.order) told_is) in
              both_flags (costs.settled t k) none' (rw (← e_tables, ← e_order) is.here)

          found_at : (t k : ℕ) → costs.cost t k ≤ limit → (p : ℕ) × IsAt s p t k (costs.cost t k) × (costs.settled t k ≡ false → Contains waiting (costs.cost t k, p))
          found_at t k known =
              let same = is.costs t k in
              let f = v.found t k (omega (arith, known, same)) in
              rw same (f.0, f.1, λ none'. stays _ f.0 (f.2 (was_no t k none')) (λ e. not_it t k f.0 f.1 none' e))

          waits_at : (c p : ℕ) → Contains waiting (c, p) → Waits (at s.states place).found.cost (record { states = s.states; costs = costs; waiting = waiting; steps = s.steps }) c p
          waits_at c p there =
              let x = v.waits c p (t.were _ there) in
              let least = All-contains (λ (y : Waiting). w ≤ y.0) s.waiting (c, p) t.least (t.were _ there) in
              let stands = here.stands in
              let low = x.low in
              record { within = x.within; stands = x.stands; high = omega (arith, stands, least); low = let same = is.costs (at s.states p).tables (at s.states p).order in omega (arith, low, same) }

          low_at : (t k : ℕ) → costs.settled t k ≡ true → ((t ≡ tables) × (k ≡ order)) ⊎ ((t ≢ tables) ⊎ (k ≢ order)) → (costs.cost t k ≤ (at s.states place).found.cost) × (costs.cost t k ≤ limit)
          low_at t k here_on (inl (e, f)) =
              let same = is.costs tables order in
              let stands = here.stands in
              rw (e, f) (omega (arith, same, cost_is, stands), omega (arith, same, cost_is, small))
          low_at t k here_on (inr ne) =
              let same = is.costs t k in
              let l = v.low t k (sym (is.others t k ne) ∙ here_on) in
              let l0 = l.0 in
              let l1 = l.1 in
              let high = here.high in
              let stands = here.stands in
              (omega (arith, same, l0, high, stands), omega (arith, same, l1))

-- ---- none waits

pub all_settled : (s : Search) → s.waiting ≡ [] → (space : Space) (level : ℕ) → IsOpen space level s → (t k : ℕ) → cost_at s t k ≤ limit → IsSettled s t k
all_settled s empty space level v t k known = of_flag (false_or_true (s.costs.settled t k))
  where
    of_flag : (s.costs.settled t k ≡ false) ⊎ (s.costs.settled t k ≡ true) → IsSettled s t k
    of_flag (inl off) = let f = v.found t k known in absurd (not_in_empty _ (subst (λ (xs : List Waiting). Contains xs (cost_at s t k, f.0)) empty (f.2 off)))
    of_flag (inr here_on) = here_on

-- what is the same of an earlier search
pub next_from : (space : Space) (level place : ℕ) (old s new : Search) → s.states ≡ old.states → s.costs ≡ old.costs → s.steps ≡ old.steps → IsNext space level place s new → IsNext space level place old new
next_from space level place old s new states costs steps n = record {
  is_open = n.is_open;
  states = n.states ∙ states;
  within = n.within;
  rises = n.rises;
  cost = n.cost;
  was_not = rw (← costs) n.was_not;
  settled = rw (← costs) n.settled;
  steps = n.steps ∙ steps;
}

-- what an open search has waiting has slots
pub slotted : (space : Space) (level : ℕ) (s : Search) → IsOpen space level s → AreSlotted s
slotted space level s v = record {
  within = λ c p there. (v.waits c p there).within;
  sets = λ c p there. let i = v.inside p (v.waits c p there).within in let e = v.sets in omega (arith, i, e);
  orders = λ c p there. let i = (v.made p (v.waits c p there).within).numbered in let e = v.orders in omega (arith, i, e);
  found = λ c p there.
      let x = v.waits c p there in
      let low = x.low in
      let stands = x.stands in
      let small = (v.made p x.within).small in
      omega (arith, low, stands, small);
}
