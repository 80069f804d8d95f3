use Rattle.std.proofs.Common.{◌≡◌, ◌∙◌, ◌+◌, ap, refl}
use Rattle.definitions.specs.Plans.Cost.{saturated}
use Rattle.plan_tree.specs.Sets.{set_of}
use Rattle.plan_space.specs.Planned.{space_in}
use Rattle.plan_space.proofs.Plans.{a_sort}
use Rattle.plan_space.proofs.summarising.sort_summary.Goals as goal

pub returns : goal.returns
returns c = λ plan is.
    let space = space_in c.args.space.now in
    let cost : c.plus.result.number ≡ saturated (c.args.input.cost.number + space.sort_cost (set_of c.args.input.tables)) =
    c.plus.ensures ∙ ap (λ n. saturated (c.args.input.cost.number + n)) c.sort_cost-sort_cost.ensures in
    a_sort space plan c.args.input is c.args.order _ (c.if-not-can_sort.ensures.0 refl) refl refl cost
