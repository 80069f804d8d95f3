use Rattle.definitions.proofs.PlanTheory.LeastPlans.{none_without_least}
use Rattle.definitions.proofs.plans.least_plans_are_there.Goals as goal

pub returns : goal.returns
returns c space complete none = none_without_least space complete none
