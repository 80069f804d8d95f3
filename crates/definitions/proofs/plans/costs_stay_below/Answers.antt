use Rattle.definitions.proofs.PlanTheory.Below.{cost_within}
use Rattle.definitions.proofs.plans.costs_stay_below.Goals as goal

pub returns : goal.returns
returns c space plan complete is_plan = cost_within space complete plan is_plan
