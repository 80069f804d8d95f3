use Rattle.definitions_execution.proofs.KeyOrder.{run_computed}
use Rattle.definitions_execution.proofs.run_is_computed.Goals as goal

pub returns : goal.returns
returns c columns rows = run_computed columns rows
