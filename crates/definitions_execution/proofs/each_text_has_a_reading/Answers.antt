use Rattle.definitions_execution.proofs.ScriptReadings.{none_without_reading}
use Rattle.definitions_execution.proofs.each_text_has_a_reading.Goals as goal

pub returns : goal.returns
returns c = none_without_reading
