use Rattle.std.proofs.Common.{◌∙◌}
use Rattle.planner.proofs.Least.{has_plans, least_of, same_space}
use Rattle.planner.proofs.block_plans.block_plan.Goals as goal

pub new-requires-2 : goal.new-requires-2
new-requires-2 c = has_plans c.args.database.now c.args.block.now c.in_ok-estimate.estimate.block c.in_ok-estimate.ensures.block c.requires.formed

pub returns : goal.returns
returns c =
    let space = c.in_ok-space in
    least_of _ c.args.database.now c.args.block.now c.in_ok-conjuncts.ensures
    (same_space space.space c.args.database.now c.args.block.now space.ensures.version (space.ensures.database ∙ c.in_ok-estimate.ensures.database) (space.ensures.block ∙ c.in_ok-estimate.ensures.block))
    c.in_ok-plan.ensures
