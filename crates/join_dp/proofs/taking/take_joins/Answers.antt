use Rattle.plan_space.specs.Planned.{space_in}
use Rattle.std.proofs.Common.{◌<◌, subst, sym, length, arith}
use Rattle.std.proofs.lemmas.List.{length-map}
use Rattle.join_dp.specs.JoinLists.{joins_in}
use Rattle.join_dp.specs.Joining.{IsAdded}
use Rattle.join_dp.specs.Searched.{LowByAdded}
use Rattle.join_dp.specs.Searching.{cost_at, IsOpen}
use Rattle.join_dp.specs.StatePlans.{StatePlan, at}
use Rattle.join_dp.specs.States.{search_of, states_in}
use Rattle.join_dp.specs.Views.{Added, added_of}
use Rattle.join_dp.proofs.Joined.{joins_begin, joins_go, joins_end, read_added}
use Rattle.join_dp.proofs.taking.take_joins.Goals as goal

pub joins-init : goal.joins-init
joins-init c = (joins_begin (space_in c.args.space.now) (joins_in c.args.lists.now) (at (states_in c.args.states.now) c.args.place) c.args.places.start (search_of c.args.states.now) c.requires.is_open, omega arith)

pub take_join-requires-clause-from : goal.take_join-requires-clause-from
take_join-requires-clause-from c =
    rw (c.joins.invariant.0.more.kept c.args.place c.requires.place) ((c.requires.relation.1 c.index-outer.result.now c.index-outer.ensures).1)

pub take_join-requires-clause-place : goal.take_join-requires-clause-place
take_join-requires-clause-place c = let l = c.joins.invariant.0.more.longer in omega (arith, l, c.requires.place)

pub take_join-requires-clause-is_open : goal.take_join-requires-clause-is_open
take_join-requires-clause-is_open c = rw (c.joins.invariant.0.more.kept c.args.place c.requires.place) c.joins.invariant.0.is_open

pub take_join-requires-clause-added : goal.take_join-requires-clause-added
take_join-requires-clause-added c =
    let are = c.requires.joins in
    let within = are.within in
    let lt : c.joins.number < length c.args.lists.now.joins.items = omega (arith, within, c.joins-test.true, c.joins.auto.number-end are.rising, length-map c.args.lists.now.joins.items added_of) in
    let e = read_added c.args.lists.now.joins.items c.joins.number c.index.result.now c.index.ensures lt in
    let is = are.each c.joins.number c.joins.auto.number (omega (arith, c.joins-test.true)) in
    rw (c.joins.invariant.0.more.kept c.args.place c.requires.place)
    (subst (λ (a : Added). IsAdded (space_in c.args.space.now) (at (states_in c.args.states.now) c.args.place).tables a.table a.join a.cost) (sym e) is)

pub joins-preserved : goal.joins-preserved
joins-preserved c =
    let are = c.requires.joins in
    let within = are.within in
    let i = c.joins.invariant.0 in
    let o = c.in_ok-take_join.ensures in
    let kept = i.more.kept c.args.place c.requires.place in
    let lt : c.joins.number < length c.args.lists.now.joins.items = omega (arith, within, c.joins-test.true, c.joins.auto.number-end are.rising, length-map c.args.lists.now.joins.items added_of) in
    let e = read_added c.args.lists.now.joins.items c.joins.number c.index.result.now c.index.ensures lt in
    let is_open = subst (λ (x : StatePlan). IsOpen (space_in c.args.space.now) x.found.cost (search_of c.take_join.new.states)) kept o.is_open in
    let low = subst (λ (x : StatePlan). LowByAdded (space_in c.args.space.now) (cost_at (search_of c.take_join.new.states)) x (added_of c.index.result.now)) kept o.low in (
      joins_go (space_in c.args.space.now) (joins_in c.args.lists.now) (at (states_in c.args.states.now) c.args.place) c.args.places.start (search_of c.args.states.now) (search_of c.joins.states) (search_of c.take_join.new.states) c.joins.number (added_of c.index.result.now) e i is_open o.more low,
      omega (arith, o.steps, c.joins.invariant.1),
    )

pub returns-clause-is_open : goal.returns-clause-is_open
returns-clause-is_open c = c.joins.invariant.0.is_open

pub returns-clause-more : goal.returns-clause-more
returns-clause-more c = c.joins.invariant.0.more

pub returns-clause-low : goal.returns-clause-low
returns-clause-low c =
    joins_end (space_in c.args.space.now) (joins_in c.args.lists.now) (at (states_in c.args.states.now) c.args.place) c.args.places.start c.args.places.end (cost_at (search_of c.joins.states)) c.requires.joins
    (λ p ge lt. c.joins.invariant.0.low p ge (omega (arith, lt, c.joins-test.false)))

pub returns-clause-steps : goal.returns-clause-steps
returns-clause-steps c = let are = c.requires.joins in omega (arith, c.joins.invariant.1, c.joins.auto.number-end are.rising)
