use Rattle.std.proofs.Common.{◌≡◌, ◌∙◌, ◌+◌, refl, sym, subst}
use Rattle.definitions.specs.Plans.TableSet.{TableSet}
use Rattle.plan_space.specs.InterestingOrders.Merges.{GoesBy}
use Rattle.definitions.specs.Plans.Comparisons.{MergeStep}
use Rattle.definitions.specs.Plans.Cost.{saturated}
use Rattle.plan_space.proofs.Deciding.{holds, fails}
use Rattle.plan_space.specs.Merge.{AreMerges}
use Rattle.plan_space.specs.Merges.{merge_of}
use Rattle.plan_space.specs.Planned.{space_in}
use Rattle.plan_tree.specs.Certificates.{state_of}
use Rattle.plan_tree.specs.Sets.{set_of}
use Rattle.cert_check.specs.Checks.{IsMergeWith}
use Rattle.cert_check.proofs.Comparing.{sum_is}
use Rattle.cert_check.proofs.JoinRule.{MergeBy, step_for, same_step, merge_apart, merge_of_item, item_of_merge}
use Rattle.cert_check.proofs.Handing.{begins, nothing, goes_on, stops, item_more, item_stops, ends}
use Rattle.cert_check.proofs.joins.compare_merges.Goals as goal

pub merges-init : goal.merges-init
merges-init g c =
    let space = space_in c.args.space.now in
    rw c.into_iter-item-iterator.ensures.into_iter_gives (begins g.L.Listener.hears (MergeBy space (state_of c.args.from) c.args.table (set_of c.args.to.tables) c.args.to.order c.args.bound) (AreMerges space (set_of c.args.from.tables) c.args.table) _ _ (subst (λ (s : TableSet). AreMerges space s c.args.table c.merges-item-items.result) c.requires.from c.merges-item-items.ensures))

pub merges-preserved : goal.merges-preserved
merges-preserved g c =
    let space = space_in c.args.space.now in
    let from = state_of c.args.from in
    let table = c.args.table in
    let reached = set_of c.args.to.tables in
    let item = merge_of c.in-Some.item in
    let x = step_for space from table reached c.args.to.order c.args.bound (MergeStep item.conjunct item.inner) c.cost_from.result.number in
    let cost : c.cost_from.result.number ≡ saturated (from.cost + item.cost) = sum_is _ _ _ _ _ c.cost_from.ensures refl refl in
    let same = same_step space from table reached c.args.to.order c.args.bound (MergeStep item.conjunct item.inner) item.cost c.cost_from.result.number cost in
    let goes = subst (λ (s : TableSet). GoesBy space s from.order item.conjunct table) c.requires.from (holds _ (c.if-not-goes_by.ensures space c.requires.outer)) in
    item_more g.L.Listener.hears (MergeBy space from table reached c.args.to.order c.args.bound) (AreMerges space from.tables table) _ _ _ _ _ item c.in-Some.ensures.steps c.merges.invariant
    (λ done are. merge_apart space from table reached c.args.to.order c.args.bound done _ item are) (goes_on g.L.Listener.hears (MergeBy space from table reached c.args.to.order c.args.bound item) _ _ x c.if-not-hear.ensures (goes, same) (λ y is. is.1 ∙ sym same))

pub merges-preserved-then-not-goes_by : goal.merges-preserved-then-not-goes_by
merges-preserved-then-not-goes_by g c =
    let space = space_in c.args.space.now in
    let from = state_of c.args.from in
    let table = c.args.table in
    let reached = set_of c.args.to.tables in
    let item = merge_of c.in-Some.item in
    item_more g.L.Listener.hears (MergeBy space from table reached c.args.to.order c.args.bound) (AreMerges space from.tables table) _ _ _ _ _ item c.in-Some.ensures.steps c.merges.invariant
    (λ done are. merge_apart space from table reached c.args.to.order c.args.bound done _ item are) (nothing g.L.Listener.hears (MergeBy space from table reached c.args.to.order c.args.bound item) _ (λ x is. fails _ (c.if-not-goes_by.ensures space c.requires.outer) (subst (λ (s : TableSet). GoesBy space s from.order item.conjunct table) (sym c.requires.from) is.0)))

pub returns-then-not-hear : goal.returns-then-not-hear
returns-then-not-hear g c =
    let space = space_in c.args.space.now in
    let from = state_of c.args.from in
    let table = c.args.table in
    let reached = set_of c.args.to.tables in
    let item = merge_of c.in-Some.item in
    let x = step_for space from table reached c.args.to.order c.args.bound (MergeStep item.conjunct item.inner) c.cost_from.result.number in
    let cost : c.cost_from.result.number ≡ saturated (from.cost + item.cost) = sum_is _ _ _ _ _ c.cost_from.ensures refl refl in
    let same = same_step space from table reached c.args.to.order c.args.bound (MergeStep item.conjunct item.inner) item.cost c.cost_from.result.number cost in
    let goes = subst (λ (s : TableSet). GoesBy space s from.order item.conjunct table) c.requires.from (holds _ (c.if-not-goes_by.ensures space c.requires.outer)) in
    item_stops g.L.Listener.hears (MergeBy space from table reached c.args.to.order c.args.bound) (AreMerges space from.tables table) _ _ _ _ _ item c.in-Some.ensures.steps c.merges.invariant
    (λ done are. merge_apart space from table reached c.args.to.order c.args.bound done _ item are) (IsMergeWith space from table reached c.args.to.order c.args.bound) x (merge_of_item space from table reached c.args.to.order c.args.bound)
    (stops g.L.Listener.hears (MergeBy space from table reached c.args.to.order c.args.bound item) _ _ x c.if-not-hear.ensures (goes, same))

pub returns : goal.returns
returns g c =
    let space = space_in c.args.space.now in
    let from = state_of c.args.from in
    let table = c.args.table in
    let reached = set_of c.args.to.tables in
    ends g.L.Listener.hears (MergeBy space from table reached c.args.to.order c.args.bound) (AreMerges space from.tables table) (IsMergeWith space from table reached c.args.to.order c.args.bound) _ _ _ c.in-None.ensures.steps.0 c.merges.invariant
    (merge_of_item space from table reached c.args.to.order c.args.bound) (item_of_merge space from table reached c.args.to.order c.args.bound)
