-- What has been settled when a search ends.
use Rattle.std.proofs.Common.{zero, suc, ◌≡◌, ◌∙◌, ℕ, ◌+◌, ◌^◌, ◌<◌, ◌≤◌, ◌⊎◌, inl, inr, List, [], ◌∷◌, Bool, true, false, cond, length, get_or, nat_lt, arith, refl, sym, ap, subst}
use Rattle.std.proofs.lemmas.Bool.{cases_lt}
use Rattle.std.proofs.lemmas.Bool.Decides.{nat_tests}
use Rattle.std.proofs.lemmas.Nat.{le_or_r, pow_pos}
use Rattle.std.proofs.lemmas.List.Elements.{Contains-get_or}
use Rattle.std.specs.Prelude.{All, Contains, filter}
use Rattle.definitions.specs.Plans.Order.{Order}
use Rattle.definitions.specs.Plans.Path.{table_of}
use Rattle.definitions.specs.Plans.Plan.{Plan}
use Rattle.definitions.specs.Plans.Space.{Space, whole, order_at}
use Rattle.definitions.specs.Plans.ColumnClass.{Satisfies}
use Rattle.definitions.specs.Plans.PlanSpace.{InSpace, GivesRequired}
use Rattle.definitions.specs.Plans.Cost.{limit, saturated, cost_of}
use Rattle.definitions.specs.Plans.Least.{IsLeast}
use Rattle.definitions.specs.Plans.Folding.{IsUseful, OpensMerge, Folds, IsOn}
use Rattle.definitions.specs.Plans.Certificate.{StateCost, Certificate, Lists, IsListed, listed_or, bound, AreStates}
use Rattle.definitions.specs.Plans.Validity.{IsValid}
use Rattle.definitions.specs.Plans.Exact.{IsExact, AreAttained}
use Rattle.definitions.specs.Plans.Search.{under, certificate_below, IsSolvedUnder, IsCheapest, IsComplete}
use Rattle.definitions.proofs.PlanTheory.Below.{searched}
use Rattle.definitions.proofs.PlanTheory.Bounds.{bound_cases, least}
use Rattle.definitions.proofs.PlanTheory.Exactness.{listed_cost}
use Rattle.definitions.proofs.PlanTheory.Finding.{finds, kept_ordered}
use Rattle.definitions.proofs.PlanTheory.Orders.{state_over}
use Rattle.definitions.proofs.PlanTheory.Rules.{together}
use Rattle.join_dp.specs.Costs.{settled_among, settled_count}
use Rattle.join_dp.specs.Final.{AreSolutions}
use Rattle.join_dp.specs.Listing.{states_up_to}
use Rattle.join_dp.specs.Planned.{IsPlanAt}
use Rattle.join_dp.specs.Searched.{LowByAccesses, IsLowFrom, IsSearched, IsSame, IsNone, IsEnd}
use Rattle.join_dp.specs.Searching.{Search, cost_at, IsSettled, IsAt, IsOpen}
use Rattle.join_dp.specs.StatePlans.{StatePlan, at, StepMakes, AllMade}
use Rattle.join_dp.specs.Steps.{Step, AccessOf, JoinOn, SortOn, IsUnsorted, Loop, Merge, table_in}
use Rattle.join_dp.specs.Words.{words_in, IsPlanOf}
use Rattle.join_dp.proofs.NextSettled.{both_flags}
use Rattle.join_dp.proofs.Offering.{false_or_true}
use Rattle.join_dp.proofs.Planning.{planned, plan_of_state}
use Rattle.join_dp.proofs.SettledStates.{IsSettledState, of_sets, in_sets, sets_rise, sets_size}
use Rattle.join_dp.proofs.Sizes.{among_few}

-- ---- states that are made

-- none is of the empty set
step_some : (space : Space) (states : List StatePlan) (first tables order cost : ℕ) (step : Step) → IsUnsorted step → StepMakes space states first tables order cost step → 0 < tables
step_some space states first tables order cost (AccessOf path) unsorted made = omega (arith, made.2, pow_pos (table_of path))
step_some space states first tables order cost (JoinOn from join) unsorted made = omega (arith, made.2, le_or_r (at states from).tables (2 ^ table_in join), pow_pos (table_in join))
step_some space states first tables order cost (SortOn from into) unsorted made = absurd unsorted

pub state_some : (space : Space) (states : List StatePlan) → AllMade space states → (place : ℕ) → place < length states → 0 < (at states place).tables
state_some space states made place lt = of_step (at states place).found.step (made place lt).made
  where
    of_step : (step : Step) → StepMakes space states place (at states place).tables (at states place).order (at states place).found.cost step → 0 < (at states place).tables
    of_step (AccessOf path) m = step_some space states place (at states place).tables (at states place).order (at states place).found.cost (AccessOf path) tt m
    of_step (JoinOn from join) m = step_some space states place (at states place).tables (at states place).order (at states place).found.cost (JoinOn from join) tt m
    of_step (SortOn from into) m =
        let less = m.0 in
        let same = m.2 in
        let x = at states from in
        let some = step_some space states from x.tables x.order x.found.cost x.found.step m.1 (made from (omega (arith, less, lt))).made in
        omega (arith, same, some)

-- their orders are folds
module _ (space : Space) (complete : IsComplete space) where
  empty_useless : (s : ℕ) → IsUseful space s 0 → ⊥
  empty_useless s = rw complete.unordered (never space.required)
    where
      never : (required : Order) → ((required ≡ [] → ⊥) × Satisfies space (whole space) [] required) ⊎ OpensMerge space s [] → ⊥
      never [] (inl (ne, gives)) = ne refl
      never (x ∷ xs) (inl (ne, gives)) = gives
      never required (inr opens) = opens

  fold_again : (s d f : ℕ) → Folds space s d f → Folds space s f f
  fold_again s d f (inl (u, e)) = inl (rw e u, refl)
  fold_again s d f (inr (n, e)) = rw e (inr (empty_useless s, refl))

  step_folded : (states : List StatePlan) (first tables order cost : ℕ) (step : Step) → StepMakes space states first tables order cost step → Folds space tables order order
  step_folded states first tables order cost (AccessOf path) m = fold_again tables (space.path_order path) order m.3
  step_folded states first tables order cost (JoinOn from join) m = fold_again tables (at states from).order order m.3
  step_folded states first tables order cost (SortOn from into) m = fold_again tables into order m.4

-- ---- a filter that drops an element leaves fewer

filter_few : {X : Type 0} (p : X → Bool) (xs : List X) → length (filter p xs) ≤ length xs
filter_few p [] = omega arith
filter_few {X} p (x ∷ xs) = of_test (filter_few p xs) (p x)
  where
    of_test : length (filter p xs) ≤ length xs → (b : Bool) → length (cond b (x ∷ filter p xs) (filter p xs)) ≤ length (x ∷ xs)
    of_test h true = omega (arith, h)
    of_test h false = omega (arith, h)

filter_less : {X : Type 0} (p : X → Bool) (xs : List X) (y : X) (i : ℕ) → i < length xs → get_or xs i y ≡ y → p y ≡ false → length (filter p xs) + 1 ≤ length xs
filter_less p [] y i lt is fails = absurd (omega (arith, lt))
filter_less {X} p (x ∷ xs) y zero lt is fails = of_test (filter_few p xs) (p x) (ap p is ∙ fails)
  where
    of_test : length (filter p xs) ≤ length xs → (b : Bool) → b ≡ false → length (cond b (x ∷ filter p xs) (filter p xs)) + 1 ≤ length (x ∷ xs)
    of_test h true e = absurd cc
    of_test h false e = omega (arith, h)
filter_less {X} p (x ∷ xs) y (suc i) lt is fails = of_test (filter_less p xs y i (omega arith) is fails) (p x)
  where
    of_test : length (filter p xs) + 1 ≤ length xs → (b : Bool) → length (cond b (x ∷ filter p xs) (filter p xs)) + 1 ≤ length (x ∷ xs)
    of_test h true = omega (arith, h)
    of_test h false = omega (arith, h)

not_below : (n : ℕ) → nat_lt n n ≡ false
not_below n = grind (arith, nat_tests)

-- ---- the settled states

module _ (space : Space) (complete : IsComplete space) (level : ℕ) (s : Search) (v : IsOpen space level s) where
  abbrev pub listed : List StateCost
  listed = states_up_to s.costs (whole space)

  -- a settled state has a plan
  pub record HasPlan (t k : ℕ) : Type 0 where
    pub some : 0 < t
    pub inside : t ≤ whole space
    pub numbered : k < length space.orders
    pub folded : Folds space t k k
    pub plan : Plan
    pub is_on : IsOn space t k plan
    pub costs : cost_of space plan ≡ cost_at s t k

  has_plan : (t k : ℕ) → IsSettled s t k → HasPlan t k
  has_plan t k is = of_place (v.found t k (v.low t k is).1)
    where
      of_place : (place : ℕ) × IsAt s place t k (cost_at s t k) × (s.costs.settled t k ≡ false → Contains s.waiting (cost_at s t k, place)) → HasPlan t k
      of_place (place, (lt, e), waits) =
          let m = v.made place lt in
          let p = planned space complete s.states v.made place lt in
          let x = at s.states place in
          let et : x.tables ≡ t = ap (λ (y : StateCost). y.tables) e in
          let ek : x.order ≡ k = ap (λ (y : StateCost). y.order) e in
          let ec : x.found.cost ≡ cost_at s t k = ap (λ (y : StateCost). y.cost) e in
          let some = state_some space s.states v.made place lt in
          let inside = v.inside place lt in
          let numbered = m.numbered in
          record {
            some = omega (arith, some, et);
            inside = omega (arith, inside, et);
            numbered = omega (arith, numbered, ek);
            folded = rw (et, ek) at (step_folded space complete s.states place x.tables x.order x.found.cost x.found.step m.made);
            plan = p.0;
            is_on = rw (et, ek) at p.1.is_on;
            costs = p.1.costs ∙ ec;
          }

  of_listed : (t k c : ℕ) → Lists listed t k c → IsSettledState s.costs t k c
  of_listed t k c there = (of_sets s.costs (whole space) t k c there).3

  is_listed : (t k : ℕ) → IsSettled s t k → Lists listed t k (cost_at s t k)
  is_listed t k is =
      let h = has_plan t k is in
      let n = h.numbered in
      let e = v.orders in
      in_sets s.costs (whole space) t k h.some h.inside (omega (arith, n, e)) is

  pub form : AreStates space listed
  form = record {
    tables = λ i d lt. let x = get_or listed i d in let r = of_sets s.costs (whole space) x.tables x.order x.cost (Contains-get_or listed i d lt) in (r.0, r.1);
    orders = λ i d lt. let x = get_or listed i d in let h = has_plan x.tables x.order (of_listed x.tables x.order x.cost (Contains-get_or listed i d lt)).settled in let n = h.numbered in state_over space complete (omega (arith, n)) x.tables x.order h.plan h.is_on;
    rising = sets_rise s.costs (whole space);
  }

  pub folded : All (λ (x : StateCost). Folds space x.tables x.order x.order) listed
  folded i d lt = let x = get_or listed i d in (has_plan x.tables x.order (of_listed x.tables x.order x.cost (Contains-get_or listed i d lt)).settled).folded

  attained : AreAttained space listed
  attained t k c there =
      let is = of_listed t k c there in
      let h = has_plan t k is.settled in
      (h.plan, h.is_on, h.costs ∙ sym is.cost)

  pub few : length listed ≤ s.steps
  few =
      let size = sets_size s.costs (whole space) in
      let sets = v.sets in
      let counted = v.counted in
      let stepped = v.stepped in
      let e : suc (whole space) ≡ s.costs.sets = omega (arith, sets, pow_pos space.table_count) in
      let size' : length listed ≤ settled_count s.costs = subst (λ n. length listed ≤ settled_among s.costs.settled s.costs.orders n) e size in
      omega (arith, size', counted, stepped)

  -- ---- nothing leads below their costs, under a target that no other state is below

  module _ (target : ℕ) (top : target ≤ limit + 1) (reached : (t k : ℕ) → IsSettled s t k → cost_at s t k ≤ target) (high : (t k : ℕ) → s.costs.settled t k ≡ false → target ≤ cost_at s t k)
      (accesses : (table : ℕ) → table < space.table_count → LowByAccesses space (cost_at s) table)
      (steps : (t k : ℕ) → IsSettled s t k → IsLowFrom space (cost_at s) t k (cost_at s t k) ⊎ (target ≤ cost_at s t k)) where
    at_most : (t k : ℕ) → bound (under target listed) t k ≤ target
    at_most t k = of_cases (bound_cases target listed t k)
      where
        of_cases : Lists listed t k (listed_or target listed t k) ⊎ (listed_or target listed t k ≡ target) → listed_or target listed t k ≤ target
        of_cases (inl there) = let is = of_listed t k _ there in let e = is.cost in let le = reached t k is.settled in omega (arith, e, le)
        of_cases (inr is) = omega (arith, is)

    settled_bound : (t k : ℕ) → IsSettled s t k → bound (under target listed) t k ≡ cost_at s t k
    settled_bound t k is = listed_cost target listed t k (cost_at s t k) (sets_rise s.costs (whole space)) (is_listed t k is)

    known_bound : (t k w : ℕ) → cost_at s t k ≤ w → bound (under target listed) t k ≤ w
    known_bound t k w le = of_flag (false_or_true (s.costs.settled t k))
      where
        of_flag : (s.costs.settled t k ≡ false) ⊎ (s.costs.settled t k ≡ true) → bound (under target listed) t k ≤ w
        of_flag (inl off) = let h = high t k off in omega (arith, at_most t k, h, le)
        of_flag (inr is) = omega (arith, settled_bound t k is, le)

    -- from a listed state, by a step that adds so much
    stepped : (t k t' k' d : ℕ) → IsListed (under target listed) t k → (IsLowFrom space (cost_at s) t k (cost_at s t k) → cost_at s t' k' ≤ saturated (cost_at s t k + d))
        → bound (under target listed) t' k' ≤ saturated (bound (under target listed) t k + d)
    stepped t k t' k' d (c, there) low = of_steps (steps t k is)
      where
        is : IsSettled s t k
        is = (of_listed t k c there).settled

        of_steps : IsLowFrom space (cost_at s) t k (cost_at s t k) ⊎ (target ≤ cost_at s t k) → bound (under target listed) t' k' ≤ saturated (bound (under target listed) t k + d)
        of_steps (inl from) = rw (settled_bound t k is) (known_bound t' k' _ (low from))
        of_steps (inr le) = let small = (v.low t k is).1 in omega (arith, at_most t' k', settled_bound t k is, le, small)

    pub solved : IsSolvedUnder target space listed
    solved = record {
      form = form;
      attained = attained;
      comparisons = together space (under target listed)
          (λ path f lt there folds. known_bound _ f _ (accesses (table_of path) lt path f refl there folds))
          (λ t k path f is can folds. stepped t k _ f _ is (λ low. low.joins (Loop path) f can folds))
          (λ t k number inner f is can folds. stepped t k _ f _ is (λ low. low.joins (Merge number inner) f can folds))
          (λ t k into f is can folds. stepped t k _ f _ is (λ low. low.sorts into f can folds));
    }

-- ---- none waits

-- that can't be, as there is a plan of all tables
pub some_waits : (space : Space) → IsComplete space → (level : ℕ) (Listed : ℕ → Type 0) (s : Search) → IsSearched space level IsNone Listed s → ((t k : ℕ) → cost_at s t k ≤ limit → IsSettled s t k) → ⊥
some_waits space complete level Listed s v all = of_found (finds space (listed space complete level s v.is_open) complete (solved space complete level s v.is_open (limit + 1) (omega arith) reached high v.accesses steps))
  where
    reached : (t k : ℕ) → IsSettled s t k → cost_at s t k ≤ limit + 1
    reached t k is = let l = (v.is_open.low t k is).1 in omega (arith, l)

    high : (t k : ℕ) → s.costs.settled t k ≡ false → limit + 1 ≤ cost_at s t k
    high t k off = of_cases (cases_lt limit (cost_at s t k))
      where
        of_cases : (limit < cost_at s t k) ⊎ (cost_at s t k ≤ limit) → limit + 1 ≤ cost_at s t k
        of_cases (inl lt) = omega (arith, lt)
        of_cases (inr le) = absurd (both_flags (s.costs.settled t k) off (all t k le))

    steps : (t k : ℕ) → IsSettled s t k → IsLowFrom space (cost_at s) t k (cost_at s t k) ⊎ (limit + 1 ≤ cost_at s t k)
    steps t k is = of_steps (v.steps t k is)
      where
        of_steps : IsNone t k ⊎ IsLowFrom space (cost_at s) t k (cost_at s t k) → IsLowFrom space (cost_at s) t k (cost_at s t k) ⊎ (limit + 1 ≤ cost_at s t k)
        of_steps (inl none) = absurd none
        of_steps (inr low) = inl low

    of_found : (k : ℕ) × (p : Plan) × Lists (states_up_to s.costs (whole space)) (whole space) k (cost_of space p) × Satisfies space (whole space) (order_at space k) space.required × InSpace space p × GivesRequired space p → ⊥
    of_found (k, p, there, gives, inside, required) = v.never (whole space) k (of_sets s.costs (whole space) (whole space) k (cost_of space p) there).3.settled (refl, gives)

-- ---- a state that gives an answer is settled

module _ (space : Space) (complete : IsComplete space) (place : ℕ) (s : Search) (e : IsEnd space place s) (p : Plan) (found : IsPlanAt space s.states place p) where
  abbrev target : ℕ
  target = (at s.states place).found.cost

  abbrev state : StatePlan
  state = at s.states place

  plan : IsPlanOf space state.tables state.order target p
  plan = plan_of_state space complete s.states place p found

  v : IsSearched space target (IsSame state) (λ t. ⊥) s
  v = e.searched

  abbrev states : List StateCost
  states = states_up_to s.costs (whole space)

  same_cost : (t k : ℕ) → IsSame state t k → cost_at s t k ≡ target
  same_cost t k (a, b) = rw (a, b) e.cost

  high : (t k : ℕ) → s.costs.settled t k ≡ false → target ≤ cost_at s t k
  high t k off = of_cases (cases_lt limit (cost_at s t k))
    where
      small : target ≤ limit
      small = v.small

      of_cases : (limit < cost_at s t k) ⊎ (cost_at s t k ≤ limit) → target ≤ cost_at s t k
      of_cases (inl lt) = omega (arith, lt, small)
      of_cases (inr le) = let f = v.is_open.found t k le in (v.is_open.waits (cost_at s t k) f.0 (f.2 off)).high

  steps : (t k : ℕ) → IsSettled s t k → IsLowFrom space (cost_at s) t k (cost_at s t k) ⊎ (target ≤ cost_at s t k)
  steps t k is = of_steps (v.steps t k is)
    where
      of_steps : IsSame state t k ⊎ IsLowFrom space (cost_at s) t k (cost_at s t k) → IsLowFrom space (cost_at s) t k (cost_at s t k) ⊎ (target ≤ cost_at s t k)
      of_steps (inl same) = let c = same_cost t k same in inr (omega (arith, c))
      of_steps (inr low) = inl low

  is_solved : IsSolvedUnder target space states
  is_solved = let small = v.small in solved space complete target s v.is_open target (omega (arith, small)) (λ t k is. (v.is_open.low t k is).0) high v.accesses steps

  on_all : IsOn space (whole space) state.order p
  on_all = subst (λ t. IsOn space t state.order p) e.final.0 plan.is_on

  is_cheapest : IsCheapest space states p
  is_cheapest =
      let ordered = kept_ordered space state.order p complete on_all e.final.1 in (
        ordered.0,
        ordered.1,
        λ k c there gives.
            let is = (of_sets s.costs (whole space) (whole space) k c there).3 in
            let same = v.never (whole space) k is.settled (refl, gives) in
            let a = same_cost (whole space) k same in
            let b = is.cost in
            let d = plan.costs in
            omega (arith, a, b, d),
      )

  certified : IsValid space p (certificate_below (cost_of space p) states) × IsExact space (certificate_below (cost_of space p) states)
  certified = let d = plan.costs in searched space target states p complete is_solved is_cheapest (omega (arith, d))

  module _ (certificate : Certificate) (is : certificate ≡ certificate_below (at s.states place).found.cost (states_up_to s.costs (whole space))) where
    is_below : certificate ≡ certificate_below (cost_of space p) states
    is_below = is ∙ ap (λ n. certificate_below n states) (sym plan.costs)

    pub valid : IsValid space p certificate
    valid = subst (IsValid space p) (sym is_below) certified.0

    pub exact : IsExact space certificate
    exact = subst (IsExact space) (sym is_below) certified.1

    pub is_least : IsLeast space p
    is_least = least space p certificate valid

    pub fewer_listed : length certificate.states + 1 ≤ length (states_up_to s.costs (whole space))
    fewer_listed =
        let h = has_plan space complete target s v.is_open state.tables state.order e.settled in
        let there = is_listed space complete target s v.is_open state.tables state.order e.settled in
        let fails : nat_lt (cost_at s state.tables state.order) target ≡ false = rw e.cost (not_below target) in
        let less = filter_less (λ (x : StateCost). nat_lt x.cost target) states _ there.0 there.1 there.2 fails in
        let states_is = ap (λ (x : Certificate). length x.states) is in
        omega (arith, less, states_is)

  pub short : space.table_count ≤ 14 → words_in p ≤ 64
  short few_tables = let few_words = plan.short in omega (arith, few_words, among_few space.table_count state.tables, few_tables)

  pub solutions : (count : ℕ) → length (states_up_to s.costs (whole space)) ≡ count → AreSolutions space count
  solutions count is = (states, form space complete target s v.is_open, folded space complete target s v.is_open, is)
