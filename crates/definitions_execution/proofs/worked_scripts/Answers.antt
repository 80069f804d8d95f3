use Rattle.definitions_execution.proofs.Runs.{empty_script}
use Rattle.definitions_execution.proofs.worked_scripts.Goals as goal

pub returns : goal.returns
returns c = empty_script
