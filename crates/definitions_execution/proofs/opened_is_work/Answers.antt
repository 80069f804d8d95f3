use Rattle.definitions_execution.proofs.Working.{works}
use Rattle.definitions_execution.proofs.opened_is_work.Goals as goal

pub returns-clause-work : goal.returns-clause-work
returns-clause-work c space stored fits plan is = works space stored fits plan is
