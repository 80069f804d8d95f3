use Rattle.plan_space.specs.Planned.{space_in}
use Rattle.std.proofs.Common.{◌∙◌, refl, ap, subst, sym, arith}
use Rattle.std.proofs.lemmas.Result.{IfOk-weaker}
use Rattle.definitions.specs.Plans.TableSet.{with_table}
use Rattle.plan_space.proofs.Deciding.{holds, fails}
use Rattle.join_dp.specs.Searched.{LowByAdded}
use Rattle.join_dp.specs.Searching.{cost_at, IsOpen, IsOffer, AreMore}
use Rattle.join_dp.specs.StatePlans.{StatePlan, at}
use Rattle.join_dp.specs.States.{search_of, states_in}
use Rattle.join_dp.specs.Steps.{JoinOn}
use Rattle.join_dp.specs.Views.{join_of, added_of}
use Rattle.join_dp.proofs.Joined.{join_offer, added_low, sum_is}
use Rattle.join_dp.proofs.Offering.{more_same}
use Rattle.join_dp.proofs.Steps.{still_inside}
use Rattle.join_dp.proofs.taking.take_join.Goals as goal

pub returns-then-not-goes_with-clause-more : goal.returns-then-not-goes_with-clause-more
returns-then-not-goes_with-clause-more c = more_same (search_of c.args.states.now)

pub returns-then-not-goes_with-clause-low : goal.returns-then-not-goes_with-clause-low
returns-then-not-goes_with-clause-low c = λ folded goes folds.
    let order = ap (λ (x : StatePlan). x.order) c.at-state.ensures in
    absurd (fails _ (c.if-not-goes_with.ensures (space_in c.args.space.now) c.requires.outer) (rw (c.requires.from, order) goes))

pub with-tables-requires : goal.with-tables-requires
with-tables-requires c = let lt = c.requires.added.follows.0 in omega (arith, c.requires.few, lt)

pub offer-requires-clause-set : goal.offer-requires-clause-set
offer-requires-clause-set c =
    let tables = ap (λ (x : StatePlan). x.tables) c.at-state.ensures in
    let v = c.requires.is_open in
    let inside = still_inside (space_in c.args.space.now).table_count (at (states_in c.args.states.now) c.args.place).tables c.args.added.table (v.inside c.args.place c.requires.place) c.requires.added.follows.0 in
    let sets = v.sets in
    rw (c.with-tables.ensures, tables) (omega (arith, inside, sets))

pub offer-requires-clause-order : goal.offer-requires-clause-order
offer-requires-clause-order c =
    let order = ap (λ (x : StatePlan). x.order) c.at-state.ensures in
    let n = (c.requires.is_open.made c.args.place c.requires.place).numbered in
    let e = c.requires.is_open.orders in
    omega (arith, order, c.fold.ensures.within, n, e)

pub returns-clause-is_open : goal.returns-clause-is_open
returns-clause-is_open c =
    let space = space_in c.args.space.now in
    let s = search_of c.args.states.now in
    let tables = ap (λ (x : StatePlan). x.tables) c.at-state.ensures in
    let order = ap (λ (x : StatePlan). x.order) c.at-state.ensures in
    let cost = ap (λ (x : StatePlan). x.found.cost) c.at-state.ensures in
    let goes = rw (c.requires.from, order) at (holds _ (c.if-not-goes_with.ensures space c.requires.outer)) in
    let folds = rw (c.with-tables.ensures, tables, order) at c.fold.ensures.exact in
    let off = join_offer space s c.args.place c.requires.place c.requires.is_open c.args.added.table (join_of c.args.added.join) c.args.added.cost.number c.fold.result c.plus.result.number c.requires.added goes folds (rw order at c.fold.ensures.within)
    (sum_is _ _ _ _ _ c.plus.ensures cost refl) in
    let off' = subst (λ t. IsOffer space (at (states_in c.args.states.now) c.args.place).found.cost s t c.fold.result (record { step = JoinOn c.args.place (join_of c.args.added.join); cost = c.plus.result.number })) (sym (c.with-tables.ensures ∙ ap (λ t. with_table t c.args.added.table) tables)) off in
    IfOk-weaker c.offer.result _ (λ r. IsOpen space (at (states_in c.args.states.now) c.args.place).found.cost (search_of c.offer.new.self)) (λ r h. h space (at (states_in c.args.states.now) c.args.place).found.cost off') c.offer.ensures.is_open

pub returns-clause-more : goal.returns-clause-more
returns-clause-more c =
    let space = space_in c.args.space.now in
    let s = search_of c.args.states.now in
    let tables = ap (λ (x : StatePlan). x.tables) c.at-state.ensures in
    let order = ap (λ (x : StatePlan). x.order) c.at-state.ensures in
    let cost = ap (λ (x : StatePlan). x.found.cost) c.at-state.ensures in
    let goes = rw (c.requires.from, order) at (holds _ (c.if-not-goes_with.ensures space c.requires.outer)) in
    let folds = rw (c.with-tables.ensures, tables, order) at c.fold.ensures.exact in
    let off = join_offer space s c.args.place c.requires.place c.requires.is_open c.args.added.table (join_of c.args.added.join) c.args.added.cost.number c.fold.result c.plus.result.number c.requires.added goes folds (rw order at c.fold.ensures.within)
    (sum_is _ _ _ _ _ c.plus.ensures cost refl) in
    let off' = subst (λ t. IsOffer space (at (states_in c.args.states.now) c.args.place).found.cost s t c.fold.result (record { step = JoinOn c.args.place (join_of c.args.added.join); cost = c.plus.result.number })) (sym (c.with-tables.ensures ∙ ap (λ t. with_table t c.args.added.table) tables)) off in
    IfOk-weaker c.offer.result _ (λ r. AreMore s (search_of c.offer.new.self)) (λ r h. h space (at (states_in c.args.states.now) c.args.place).found.cost off') c.offer.ensures.more

pub returns-clause-low : goal.returns-clause-low
returns-clause-low c =
    let space = space_in c.args.space.now in
    let tables = ap (λ (x : StatePlan). x.tables) c.at-state.ensures in
    let order = ap (λ (x : StatePlan). x.order) c.at-state.ensures in
    let cost = ap (λ (x : StatePlan). x.found.cost) c.at-state.ensures in
    let folds = rw (c.with-tables.ensures, tables, order) at c.fold.ensures.exact in
    let is = sum_is _ _ _ _ _ c.plus.ensures cost refl in
    IfOk-weaker c.offer.result _ (λ r. LowByAdded space (cost_at (search_of c.offer.new.self)) (at (states_in c.args.states.now) c.args.place) (added_of c.args.added))
    (λ r h. added_low space (at (states_in c.args.states.now) c.args.place) (added_of c.args.added) (cost_at (search_of c.offer.new.self)) c.fold.result c.plus.result.number folds is (rw (c.with-tables.ensures, tables) at h)) c.offer.ensures.here
