use Rattle.cases_plans.proofs.Planned.{has_plans}
use Rattle.cases_plans.proofs.running.space_of.Goals as goal

pub new-requires-2 : goal.new-requires-2
new-requires-2 c = has_plans c.args.database.now c.args.block.now c.in_ok-estimate.estimate.block c.in_ok-estimate.ensures.block c.requires.formed
