use Rattle.plan_space.specs.Planned.{space_in}
use Rattle.std.proofs.Common.{◌≤◌, ◌+◌, ◌*◌, sym, subst, arith}
use Rattle.std.proofs.lemmas.Result.{IfOk-weaker}
use Rattle.join_dp.specs.JoinLists.{joins_in, listed_in, AreJoins, IsListed, IsRelationAt}
use Rattle.join_dp.specs.Counting.{most_joins}
use Rattle.join_dp.specs.Searched.{IsSearched, IsNone}
use Rattle.join_dp.specs.Searching.{IsOpen, AreMore}
use Rattle.join_dp.specs.StatePlans.{StatePlan, at}
use Rattle.join_dp.specs.States.{search_of, states_in}
use Rattle.join_dp.proofs.Known.{steps_taken, TakenAt}
use Rattle.join_dp.proofs.Offering.{more_more}
use Rattle.join_dp.proofs.Results.{ok_both}
use Rattle.join_dp.proofs.taking.take_steps.Goals as goal

pub take_joins-requires-clause-joins : goal.take_joins-requires-clause-joins
take_joins-requires-clause-joins c =
    let o = c.in_ok-places.ensures in
    let kept = o.more.kept c.args.place c.requires.place in
    subst (λ (x : StatePlan). AreJoins (space_in c.args.space.now) (joins_in c.list_joins.new.lists) x.tables c.in_ok-places.places.start c.in_ok-places.places.end (space_in c.args.space.now).table_count) (sym kept)
    (o.lists.each (at (states_in c.args.states.now) c.args.place).tables c.in_ok-places.places o.here)

pub take_joins-requires-clause-relation : goal.take_joins-requires-clause-relation
take_joins-requires-clause-relation c =
    let o = c.in_ok-places.ensures in
    let kept = o.more.kept c.args.place c.requires.place in
    subst (λ (x : StatePlan). IsRelationAt (space_in c.args.space.now) c.list_joins.new.lists.relations.items c.in_ok-places.places.relation x.tables) (sym kept)
    (o.lists.relations (at (states_in c.args.states.now) c.args.place).tables c.in_ok-places.places o.here)

pub returns-clause-searched : goal.returns-clause-searched
returns-clause-searched c =
    let space = space_in c.args.space.now in
    let state = at (states_in c.args.states.now) c.args.place in
    let o = c.in_ok-places.ensures in
    let kept = o.more.kept c.args.place c.requires.place in
    let between = search_of c.list_joins.new.states in
    let new = search_of c.take_joins.new.states in
    let both = ok_both c.take_joins.result _ _ (λ r. IsOpen space (at (states_in c.list_joins.new.states) c.args.place).found.cost new × AreMore between new) (λ r a b. (a, b)) c.take_joins.ensures.is_open c.take_joins.ensures.more in
    ok_both c.take_joins.result _ _ (λ r. IsSearched space state.found.cost IsNone (IsListed c.list_joins.new.lists) new)
    (λ r ab low.
    let at_kept = subst (λ (x : StatePlan). TakenAt space x new) kept (ab.0, low) in
    steps_taken space (IsListed c.args.lists.now) (IsListed c.list_joins.new.lists) state (search_of c.args.states.now) between new c.requires.searched c.requires.cost (c.in_ok-places.places, o.here) c.requires.never o.more ab.1 at_kept.0 o.sorts at_kept.1)
    both c.take_joins.ensures.low

pub returns-clause-more : goal.returns-clause-more
returns-clause-more c =
    IfOk-weaker c.take_joins.result _ (λ r. AreMore (search_of c.args.states.now) (search_of c.take_joins.new.states))
    (λ r m. more_more (search_of c.args.states.now) (search_of c.list_joins.new.states) (search_of c.take_joins.new.states) c.in_ok-places.ensures.more m) c.take_joins.ensures.more

pub returns-clause-steps : goal.returns-clause-steps
returns-clause-steps c = λ sorts joins counts.
    let space = space_in c.args.space.now in
    let tables = (at (states_in c.args.states.now) c.args.place).tables in
    let o = c.in_ok-places.ensures in
    let before = o.steps sorts joins counts in
    let few = (o.lists.each tables c.in_ok-places.places o.here).few sorts joins counts in
    IfOk-weaker c.take_joins.result _ (λ r. c.take_joins.new.states.steps + listed_in c.args.lists.now tables * sorts tables ≤ c.args.states.now.steps + most_joins space sorts joins tables space.table_count + listed_in c.list_joins.new.lists tables * sorts tables)
    (λ r step. omega (arith, before, few, step)) c.take_joins.ensures.steps
