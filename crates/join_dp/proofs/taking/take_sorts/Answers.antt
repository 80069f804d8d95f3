use Rattle.plan_space.specs.Planned.{space_in}
use Rattle.std.proofs.Common.{◌≡◌, ◌∙◌, ap, sym, length, arith}
use Rattle.plan_tree.specs.Sets.{set_of}
use Rattle.join_dp.specs.Searched.{cost_sorted, sorted_from}
use Rattle.join_dp.specs.Searching.{cost_at, IsOffer}
use Rattle.join_dp.specs.StatePlans.{StatePlan, at}
use Rattle.join_dp.specs.States.{search_of, states_in}
use Rattle.join_dp.specs.Steps.{SortOn}
use Rattle.join_dp.proofs.Leading.{sort_numbered, sort_offer, sorts_go, state_sorts, sorts_end, ends_low}
use Rattle.join_dp.proofs.taking.take_sorts.Goals as goal

pub sort_base-from-requires-clause-from : goal.sort_base-from-requires-clause-from
sort_base-from-requires-clause-from c = c.requires.from ∙ sym (ap (λ (x : StatePlan). x.tables) c.at-state.ensures)

pub orders-init : goal.orders-init
orders-init c =
    let tables = ap (λ (x : StatePlan). x.tables) c.at-state.ensures in
    let are = rw tables at c.sorts-order-items.ensures in
    let is = c.sort_base-from.ensures.cost ∙ ap (cost_sorted (space_in c.args.space.now)) c.at-state.ensures in
    rw c.into_iter-order-iterator.ensures.into_iter_gives
    (state_sorts (space_in c.args.space.now) (search_of c.args.states.now) c.args.place c.sort_base-from.result.1.number _ c.requires.place c.requires.is_open is are, (c.sorts-order-items.result, are, omega arith))

pub offer-requires-clause-set : goal.offer-requires-clause-set
offer-requires-clause-set c =
    let tables = ap (λ (x : StatePlan). x.tables) c.at-state.ensures in
    let inside = c.orders.invariant.0.inside in
    let e = c.orders.invariant.0.is_open.sets in
    rw tables (omega (arith, inside, e))

pub offer-requires-clause-order : goal.offer-requires-clause-order
offer-requires-clause-order c =
    let s = at (states_in c.args.states.now) c.args.place in
    let tables = ap (λ (x : StatePlan). x.tables) c.at-state.ensures in
    let n = sort_numbered (space_in c.args.space.now) s.tables c.sort_base-from.result.1.number s.found.cost (sorted_from c.args.place s) (search_of c.args.states.now) (search_of c.orders.states) _ _ c.in-Some.order c.fold.result c.in-Some.ensures.steps c.fold.ensures.within (rw tables at c.fold.ensures.exact) c.orders.invariant.0 in
    let e = c.orders.invariant.0.is_open.orders in
    omega (arith, n, e)

pub orders-preserved : goal.orders-preserved
orders-preserved c =
    let s = at (states_in c.args.states.now) c.args.place in
    let tables = ap (λ (x : StatePlan). x.tables) c.at-state.ensures in
    let from : c.sort_base-from.result.0 ≡ sorted_from c.args.place s = c.sort_base-from.ensures.from ∙ ap (sorted_from c.args.place) c.at-state.ensures in
    let folds = rw tables at c.fold.ensures.exact in
    let off = sort_offer (space_in c.args.space.now) s.tables c.sort_base-from.result.1.number s.found.cost (sorted_from c.args.place s) (search_of c.args.states.now) (search_of c.orders.states) _ _ c.in-Some.order c.fold.result c.in-Some.ensures.steps c.fold.ensures.within folds c.orders.invariant.0 in
    let off' : IsOffer (space_in c.args.space.now) s.found.cost (search_of c.orders.states) (set_of c.at-state.result.tables) c.fold.result (record { step = SortOn c.sort_base-from.result.0 c.in-Some.order; cost = c.sort_base-from.result.1.number }) = rw (tables, from) off in
    let here = rw tables at c.in_ok-offer.ensures.here in (
      sorts_go (space_in c.args.space.now) s.tables c.sort_base-from.result.1.number s.found.cost (sorted_from c.args.place s) (search_of c.args.states.now) (search_of c.orders.states) _ _ c.in-Some.order c.fold.result c.in-Some.ensures.steps c.fold.ensures.within folds c.orders.invariant.0
          (search_of c.offer.new.self) (c.in_ok-offer.ensures.is_open (space_in c.args.space.now) s.found.cost off') (c.in_ok-offer.ensures.more (space_in c.args.space.now) s.found.cost off') here,
      (c.orders.invariant.1.0, c.orders.invariant.1.1, omega (arith, c.in_ok-offer.ensures.steps, ap length c.in-Some.ensures.steps, c.orders.invariant.1.2)),
    )

pub returns-clause-is_open : goal.returns-clause-is_open
returns-clause-is_open c = c.orders.invariant.0.is_open

pub returns-clause-more : goal.returns-clause-more
returns-clause-more c = c.orders.invariant.0.more

pub returns-clause-low : goal.returns-clause-low
returns-clause-low c =
    let is = c.sort_base-from.ensures.cost ∙ ap (cost_sorted (space_in c.args.space.now)) c.at-state.ensures in
    sorts_end (space_in c.args.space.now) (search_of c.args.states.now) c.args.place c.sort_base-from.result.1.number (cost_at (search_of c.orders.states)) c.requires.place c.requires.is_open is
    (ends_low _ _ _ (cost_at (search_of c.orders.states)) _ c.in-None.ensures.steps.0 c.orders.invariant.0.leads)

pub returns-clause-steps : goal.returns-clause-steps
returns-clause-steps c = let le = c.orders.invariant.1.2 in (c.orders.invariant.1.0, c.orders.invariant.1.1, omega (arith, le))
