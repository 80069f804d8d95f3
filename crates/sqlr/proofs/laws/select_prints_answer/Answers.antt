use Rattle.definitions_execution.proofs.Runs.{select_prints_answer}
use Rattle.sqlr.proofs.laws.select_prints_answer.Goals as goal

pub returns : goal.returns
returns g c = select_prints_answer g.L.Library.answers
