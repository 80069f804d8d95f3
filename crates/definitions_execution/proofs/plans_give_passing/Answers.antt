use Rattle.definitions_execution.proofs.WholeBlock.{gives_passing, gives_required_rows}
use Rattle.definitions_execution.proofs.plans_give_passing.Goals as goal

pub returns-clause-passing : goal.returns-clause-passing
returns-clause-passing c version context block own plan is = gives_passing version context block own plan is

pub returns-clause-required : goal.returns-clause-required
returns-clause-required c version context block plan is gives = gives_required_rows version context block plan is gives
