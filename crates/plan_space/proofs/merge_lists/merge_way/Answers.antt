use Rattle.std.proofs.Common.{refl}
use Rattle.definitions.specs.Estimates.PlanConjuncts.{plan_conjuncts}
use Rattle.query_tree.specs.Bound.{block_of}
use Rattle.plan_space.proofs.Ways.{share_at}
use Rattle.plan_space.proofs.merge_lists.merge_way.Goals as goal

pub returns-in_err-other-clause-exact : goal.returns-in_err-other-clause-exact
returns-in_err-other-clause-exact c = λ space figures uses. rw c.from_residual.ensures (λ x y merges. c.in_err-other.ensures space uses x y merges.0 merges.1)

pub returns-clause-exact : goal.returns-clause-exact
returns-clause-exact c = λ space figures uses.
    let conjuncts = figures.conjuncts in
    let a = c.args in
    let m = c.in_ok-other.ensures space uses in
    let share = share_at c.conjuncts.result.now (plan_conjuncts a.estimate.now.database (block_of a.estimate.now.block)) a.conjunct c.index-conjuncts-conjunct.result c.conjuncts.ensures.exact c.requires.conjunct in
    (refl, refl, (m.0, m.1, (m.2, m.3), m.4), rw conjuncts share, figures.sort_cost)
