use Rattle.definitions_execution.proofs.Runs.{scripts_run}
use Rattle.sqlr.proofs.laws.scripts_run.Goals as goal

pub returns : goal.returns
returns g c = scripts_run g.L.Library.answers
