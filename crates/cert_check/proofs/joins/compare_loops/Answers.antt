use Rattle.std.proofs.Common.{◌≡◌, ◌∙◌, ◌+◌, refl, sym, subst}
use Rattle.definitions.specs.Plans.TableSet.{TableSet}
use Rattle.definitions.specs.Plans.Comparisons.{LoopStep}
use Rattle.definitions.specs.Plans.Cost.{saturated}
use Rattle.plan_space.specs.Loop.{AreLoops}
use Rattle.plan_space.specs.Loops.{loop_of}
use Rattle.plan_space.specs.Planned.{space_in}
use Rattle.plan_tree.specs.Certificates.{state_of}
use Rattle.plan_tree.specs.Sets.{set_of}
use Rattle.cert_check.specs.Checks.{IsLoopOver}
use Rattle.cert_check.proofs.Comparing.{sum_is}
use Rattle.cert_check.proofs.JoinRule.{LoopBy, step_for, same_step, loop_apart, loop_of_item, item_of_loop}
use Rattle.cert_check.proofs.Handing.{begins, goes_on, stops, item_more, item_stops, ends}
use Rattle.cert_check.proofs.joins.compare_loops.Goals as goal

pub loops-init : goal.loops-init
loops-init g c =
    let space = space_in c.args.space.now in
    rw c.into_iter-item-iterator.ensures.into_iter_gives (begins g.L.Listener.hears (LoopBy space (state_of c.args.from) c.args.table (set_of c.args.to.tables) c.args.to.order c.args.bound) (AreLoops space (set_of c.args.from.tables) c.args.table) _ _ (subst (λ (s : TableSet). AreLoops space s c.args.table c.loops-item-items.result) c.requires.from c.loops-item-items.ensures))

pub loops-preserved : goal.loops-preserved
loops-preserved g c =
    let space = space_in c.args.space.now in
    let from = state_of c.args.from in
    let table = c.args.table in
    let reached = set_of c.args.to.tables in
    let item = loop_of c.in-Some.item in
    let x = step_for space from table reached c.args.to.order c.args.bound (LoopStep item.path) c.cost_from.result.number in
    let cost : c.cost_from.result.number ≡ saturated (from.cost + item.cost) = sum_is _ _ _ _ _ c.cost_from.ensures refl refl in
    let same = same_step space from table reached c.args.to.order c.args.bound (LoopStep item.path) item.cost c.cost_from.result.number cost in
    item_more g.L.Listener.hears (LoopBy space from table reached c.args.to.order c.args.bound) (AreLoops space from.tables table) _ _ _ _ _ item c.in-Some.ensures.steps c.loops.invariant
    (λ done are. loop_apart space from table reached c.args.to.order c.args.bound done _ item are) (goes_on g.L.Listener.hears (LoopBy space from table reached c.args.to.order c.args.bound item) _ _ x c.if-not-hear.ensures same (λ y is. is ∙ sym same))

pub returns-then-not-hear : goal.returns-then-not-hear
returns-then-not-hear g c =
    let space = space_in c.args.space.now in
    let from = state_of c.args.from in
    let table = c.args.table in
    let reached = set_of c.args.to.tables in
    let item = loop_of c.in-Some.item in
    let x = step_for space from table reached c.args.to.order c.args.bound (LoopStep item.path) c.cost_from.result.number in
    let cost : c.cost_from.result.number ≡ saturated (from.cost + item.cost) = sum_is _ _ _ _ _ c.cost_from.ensures refl refl in
    let same = same_step space from table reached c.args.to.order c.args.bound (LoopStep item.path) item.cost c.cost_from.result.number cost in
    item_stops g.L.Listener.hears (LoopBy space from table reached c.args.to.order c.args.bound) (AreLoops space from.tables table) _ _ _ _ _ item c.in-Some.ensures.steps c.loops.invariant
    (λ done are. loop_apart space from table reached c.args.to.order c.args.bound done _ item are) (IsLoopOver space from table reached c.args.to.order c.args.bound) x (loop_of_item space from table reached c.args.to.order c.args.bound)
    (stops g.L.Listener.hears (LoopBy space from table reached c.args.to.order c.args.bound item) _ _ x c.if-not-hear.ensures same)

pub returns : goal.returns
returns g c =
    let space = space_in c.args.space.now in
    let from = state_of c.args.from in
    let table = c.args.table in
    let reached = set_of c.args.to.tables in
    ends g.L.Listener.hears (LoopBy space from table reached c.args.to.order c.args.bound) (AreLoops space from.tables table) (IsLoopOver space from table reached c.args.to.order c.args.bound) _ _ _ c.in-None.ensures.steps.0 c.loops.invariant
    (loop_of_item space from table reached c.args.to.order c.args.bound) (item_of_loop space from table reached c.args.to.order c.args.bound)
