use Rattle.definitions_execution.proofs.StepsExist.{none_without_step, none_without_run}
use Rattle.sqlr.proofs.laws.each_script_runs.Goals as goal

pub returns-clause-step : goal.returns-clause-step
returns-clause-step g c = none_without_step g.L.Library.answers

pub returns-clause-run : goal.returns-clause-run
returns-clause-run g c = none_without_run g.L.Library.answers
