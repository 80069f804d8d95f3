-- What a search knows goes on.
use Rattle.std.proofs.Common.{zero, suc, List, [], Bool, ◌^◌, ◌≡◌, ◌≢◌, ◌∙◌, ℕ, ◌+◌, ◌<◌, ◌≤◌, ◌⊎◌, inl, inr, length, false, add-one, arith, refl, sym, ap, subst}
use Rattle.definitions.specs.Plans.TableSet.{only, with_table}
use Rattle.definitions.specs.Plans.Space.{Space}
use Rattle.std.proofs.lemmas.Bool.{cases_lt}
use Rattle.std.specs.Prelude.{Contains}
use Rattle.definitions.proofs.PlanTheory.Elements.{not_in_empty}
use Rattle.join_dp.specs.Costs.{settled_of, settled_among, unknown}
use Rattle.join_dp.specs.Counting.{most_accesses}
use Rattle.join_dp.specs.Final.{IsFinal}
use Rattle.join_dp.specs.Searched.{LowByAccesses, LowByJoins, LowBySorts, IsLowFrom, AreSortsTaken, IsSearched, IsSame, IsNone, IsEnd}
use Rattle.join_dp.specs.Searching.{Search, cost_at, IsSettled, IsOpen, AreMore, IsNext}
use Rattle.join_dp.specs.StatePlans.{StatePlan, at}
use Rattle.join_dp.specs.Steps.{table_in}
use Rattle.join_dp.proofs.Leading.{CostAt, IsBelow}
use Rattle.join_dp.specs.Waiting.{Waiting}
use Rattle.join_dp.proofs.NextSettled.{both_flags}
use Rattle.join_dp.proofs.Offering.{same_or_other}

sorts_from : (space : Space) (new old : CostAt) (t a b : ℕ) → IsBelow new old → a ≤ b → LowBySorts space old t a → LowBySorts space new t b
sorts_from space new old t a b below le low into folded can folds =
    let l = below t folded in
    let h = low into folded can folds in
    omega (arith, l, h, le)

low_from : (space : Space) (new old : CostAt) (t k a b : ℕ) → IsBelow new old → a ≤ b → IsLowFrom space old t k a → IsLowFrom space new t k b
low_from space new old t k a b below le low = record {
  joins = λ join folded can folds. let l = below (with_table t (table_in join)) folded in let h = low.joins join folded can folds in omega (arith, l, h, le);
  sorts = sorts_from space new old t a b below le low.sorts;
}

accesses_from : (space : Space) (new old : CostAt) → IsBelow new old → (table : ℕ) → LowByAccesses space old table → LowByAccesses space new table
accesses_from space new old below table low path folded at there folds =
    let l = below (only table) folded in
    let h = low path folded at there folds in
    omega (arith, l, h)

module _ (space : Space) (Listed : ℕ → Type 0) where
  -- the cheapest that waits is settled, whose steps are to be taken
  pub settled_next : (level place : ℕ) (old new : Search) → IsNext space level place old new → IsSearched space level IsNone Listed old → IsSearched space (at new.states place).found.cost (IsSame (at new.states place)) Listed new
  settled_next level place old new n v = record {
    is_open = n.is_open;
    small = (n.is_open.made place n.within).small;
    accesses = λ table lt. accesses_from space (cost_at new) (cost_at old) below table (v.accesses table lt);
    steps = λ t k settled. steps_of t k settled (same_or_other t k state.tables state.order);
    sorts = λ t listed. let f = v.sorts t listed in let le = f.1 in let rises = n.rises in (f.0, omega (arith, le, rises), sorts_from space (cost_at new) (cost_at old) t f.0 f.0 below (omega arith) f.2);
    never = λ t k settled final. never_of t k settled final (same_or_other t k state.tables state.order);
  }
    where
      state : StatePlan
      state = at new.states place

      below : IsBelow (cost_at new) (cost_at old)
      below t k = let e = n.settled.costs t k in omega (arith, e)

      steps_of : (t k : ℕ) → IsSettled new t k → ((t ≡ state.tables) × (k ≡ state.order)) ⊎ ((t ≢ state.tables) ⊎ (k ≢ state.order)) → IsSame state t k ⊎ IsLowFrom space (cost_at new) t k (cost_at new t k)
      steps_of t k settled (inl same) = inl same
      steps_of t k settled (inr ne) = of_old (v.steps t k (sym (n.settled.others t k ne) ∙ settled))
        where
          of_old : IsNone t k ⊎ IsLowFrom space (cost_at old) t k (cost_at old t k) → IsSame state t k ⊎ IsLowFrom space (cost_at new) t k (cost_at new t k)
          of_old (inl none) = absurd none
          of_old (inr low) = let e = n.settled.costs t k in inr (low_from space (cost_at new) (cost_at old) t k (cost_at old t k) (cost_at new t k) below (omega (arith, e)) low)

      never_of : (t k : ℕ) → IsSettled new t k → IsFinal space t k → ((t ≡ state.tables) × (k ≡ state.order)) ⊎ ((t ≢ state.tables) ⊎ (k ≢ state.order)) → IsSame state t k
      never_of t k settled final (inl same) = same
      never_of t k settled final (inr ne) = absurd (v.never t k (sym (n.settled.others t k ne) ∙ settled) final)

-- a search is open at a state, whose joins are taken
abbrev pub TakenAt : Space → StatePlan → Search → Type 0
TakenAt space state s = IsOpen space state.found.cost s × LowByJoins space (cost_at s) state.tables state.order state.found.cost

-- the steps of the state are taken
pub steps_taken : (space : Space) (Was Listed : ℕ → Type 0) (state : StatePlan) (old between new : Search) → IsSearched space state.found.cost (IsSame state) Was old → cost_at old state.tables state.order ≡ state.found.cost → Listed state.tables
    → (IsFinal space state.tables state.order → ⊥) → AreMore old between → AreMore between new → IsOpen space state.found.cost new → AreSortsTaken space state Was Listed (cost_at between) → LowByJoins space (cost_at new) state.tables state.order state.found.cost
    → IsSearched space state.found.cost IsNone Listed new
steps_taken space Was Listed state old between new v cost listed never first second is_open sorts joins = record {
  is_open = is_open;
  small = v.small;
  accesses = λ table lt. accesses_from space (cost_at new) (cost_at old) below table (v.accesses table lt);
  steps = λ t k settled. steps_of t k (was t k settled) (v.steps t k (was t k settled));
  sorts = sorts_of;
  never = λ t k settled final. let same = v.never t k (was t k settled) final in absurd (never (rw (← same.0, ← same.1) final));
}
  where
    later : IsBelow (cost_at new) (cost_at between)
    later t k = second.lower t k

    below : IsBelow (cost_at new) (cost_at old)
    below t k = let a = first.lower t k in let b = second.lower t k in omega (arith, a, b)

    was : (t k : ℕ) → IsSettled new t k → IsSettled old t k
    was t k settled = sym (second.settled t k ∙ first.settled t k) ∙ settled

    same_cost : (t k : ℕ) → IsSettled old t k → cost_at new t k ≡ cost_at old t k
    same_cost t k settled = second.same t k (first.settled t k ∙ settled) ∙ first.same t k settled

    sorts_of : (t : ℕ) → Listed t → (from : ℕ) × (from ≤ state.found.cost) × LowBySorts space (cost_at new) t from
    sorts_of t is = of_taken (sorts t is)
      where
        of_taken : Was t ⊎ ((t ≡ state.tables) × LowBySorts space (cost_at between) t state.found.cost) → (from : ℕ) × (from ≤ state.found.cost) × LowBySorts space (cost_at new) t from
        of_taken (inl was') = let f = v.sorts t was' in (f.0, f.1, sorts_from space (cost_at new) (cost_at old) t f.0 f.0 below (omega arith) f.2)
        of_taken (inr (e, low)) = (state.found.cost, omega arith, sorts_from space (cost_at new) (cost_at between) t state.found.cost state.found.cost later (omega arith) low)

    steps_of : (t k : ℕ) → IsSettled old t k → IsSame state t k ⊎ IsLowFrom space (cost_at old) t k (cost_at old t k) → IsNone t k ⊎ IsLowFrom space (cost_at new) t k (cost_at new t k)
    steps_of t k settled (inr low) = let e = same_cost t k settled in inr (low_from space (cost_at new) (cost_at old) t k (cost_at old t k) (cost_at new t k) below (omega (arith, e)) low)
    steps_of t k settled (inl (e, f)) = inr (rw (e, f) here)
      where
        is : cost_at new state.tables state.order ≡ state.found.cost
        is = same_cost state.tables state.order (rw (← e, ← f) settled) ∙ cost

        here : IsLowFrom space (cost_at new) state.tables state.order (cost_at new state.tables state.order)
        here = record {
          joins = rw is joins;
          sorts = let f = sorts_of state.tables listed in let le = f.1 in sorts_from space (cost_at new) (cost_at new) state.tables f.0 (cost_at new state.tables state.order) (λ t' k'. omega arith) (omega (arith, le, is)) f.2;
        }

-- where a search begins
pub begun : (space : Space) (Listed : ℕ → Type 0) (s : Search) → IsOpen space 0 s → ((table : ℕ) → table < space.table_count → LowByAccesses space (cost_at s) table) → ((t k : ℕ) → s.costs.settled t k ≡ false) → ((t : ℕ) → Listed t → ⊥)
    → IsSearched space 0 IsNone Listed s
begun space Listed s v accesses none never = record {
  is_open = v;
  small = omega arith;
  accesses = accesses;
  steps = λ t k settled. absurd (let e = none t k in cc);
  sorts = λ t listed. absurd (never t listed);
  never = λ t k settled final. absurd (let e = none t k in cc);
}

-- and ends
pub ended : (space : Space) (Listed : ℕ → Type 0) (level place : ℕ) (old new : Search) → IsNext space level place old new → IsSearched space (at new.states place).found.cost (IsSame (at new.states place)) Listed new
    → IsFinal space (at new.states place).tables (at new.states place).order → IsEnd space place new
ended space Listed level place old new n v final = record {
  within = n.within;
  settled = n.settled.here;
  cost = n.cost;
  final = final;
  searched = record { is_open = v.is_open; small = v.small; accesses = v.accesses; steps = v.steps; sorts = λ t none. absurd none; never = v.never };
}

-- ---- table after table

pub accesses_more : (space : Space) (new old : CostAt) (table : ℕ) → IsBelow new old → ((t : ℕ) → t < table → LowByAccesses space old t) → LowByAccesses space new table → (t : ℕ) → t < table + 1 → LowByAccesses space new t
accesses_more space new old table below low here t lt = of_cases (cases_lt t table)
  where
    of_cases : (t < table) ⊎ (table ≤ t) → LowByAccesses space new t
    of_cases (inl less) = accesses_from space new old below t (low t less)
    of_cases (inr ge) = let e : table ≡ t = omega (arith, lt, ge) in subst (λ n. LowByAccesses space new n) e here

pub accesses_add : (space : Space) (table : ℕ) → most_accesses space (table + 1) ≡ most_accesses space table + length (space.paths 0 table)
accesses_add space table = rw add-one refl

-- ---- before the first state is found

none_of : (f : ℕ → Bool) → ((k : ℕ) → f k ≡ false) → (m : ℕ) → settled_of f m ≡ 0
none_of f off zero = refl
none_of f off (suc m) = rw (off m, none_of f off m) refl

none_among : (f : ℕ → ℕ → Bool) → ((t k : ℕ) → f t k ≡ false) → (m n : ℕ) → settled_among f m n ≡ 0
none_among f off m zero = refl
none_among f off m (suc n) = rw (none_of (f n) (off n) m, none_among f off m n) refl

pub open_new : (space : Space) (s : Search) → s.states ≡ [] → s.waiting ≡ [] → s.costs.sets ≡ 2 ^ space.table_count → s.costs.orders ≡ length space.orders → ((t k : ℕ) → s.costs.cost t k ≡ unknown) → ((t k : ℕ) → s.costs.settled t k ≡ false)
    → IsOpen space 0 s
open_new space s states waiting sets orders costs off = record {
  sets = sets;
  orders = orders;
  made = λ place lt. absurd (omega (arith, lt, none));
  inside = λ place lt. absurd (omega (arith, lt, none));
  found = λ t k known. absurd (let e = costs t k in omega (arith, known, e));
  waits = λ c p there. absurd (not_in_empty _ (subst (λ (xs : List Waiting). Contains xs (c, p)) waiting there));
  low = λ t k is. absurd (both_flags (s.costs.settled t k) (off t k) is);
  counted = omega (arith, none_among s.costs.settled off s.costs.orders s.costs.sets, ap length waiting);
  stepped = omega (arith, none);
}
  where
    none : length s.states ≡ 0
    none = ap length states
