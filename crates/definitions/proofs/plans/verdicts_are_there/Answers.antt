use Rattle.definitions.proofs.PlanTheory.Verdicts.{none_without}
use Rattle.definitions.proofs.plans.verdicts_are_there.Goals as goal

pub returns : goal.returns
returns c space plan certificate form none = none_without space certificate form plan none
