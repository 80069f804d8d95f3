use Rattle.definitions_execution.proofs.ScriptReadings.{scripts_are_written}
use Rattle.definitions_execution.proofs.scripts_are_written.Goals as goal

pub returns : goal.returns
returns c = scripts_are_written
