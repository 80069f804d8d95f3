use Rattle.definitions_execution.proofs.Loads.{load_has_one_outcome}
use Rattle.definitions_execution.proofs.load_has_one_outcome.Goals as goal

pub returns : goal.returns
returns c = load_has_one_outcome
