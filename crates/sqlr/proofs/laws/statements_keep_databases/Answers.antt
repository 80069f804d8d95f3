use Rattle.definitions_execution.proofs.ScriptSteps.{step_keeps_database}
use Rattle.definitions_execution.proofs.Runs.{faults_change_nothing}
use Rattle.sqlr.proofs.laws.statements_keep_databases.Goals as goal

pub returns-clause-kept : goal.returns-clause-kept
returns-clause-kept g c = step_keeps_database g.L.Library.answers

pub returns-clause-unchanged : goal.returns-clause-unchanged
returns-clause-unchanged g c = faults_change_nothing g.L.Library.answers
