use Rattle.std.proofs.Common.{refl}
use Rattle.definitions_execution.proofs.ExamplePlans.{in_space, laws_speak}
use Rattle.definitions_execution.proofs.plans_of_two_tables.Goals as goal

pub returns-clause-orders : goal.returns-clause-orders
returns-clause-orders c = refl

pub returns-clause-plans : goal.returns-clause-plans
returns-clause-plans c = in_space

pub returns-clause-laws : goal.returns-clause-laws
returns-clause-laws c = laws_speak

pub returns-clause-same : goal.returns-clause-same
returns-clause-same c = (
  ((refl, refl), (refl, refl), (refl, refl)),
  ((refl, refl), (refl, refl), (refl, refl)),
  ((refl, refl), (refl, refl), (refl, refl)),
  ((refl, refl), (refl, refl), (refl, refl)),
)

pub returns-clause-total : goal.returns-clause-total
returns-clause-total c = refl

pub returns-clause-nested : goal.returns-clause-nested
returns-clause-nested c = (refl, refl)
