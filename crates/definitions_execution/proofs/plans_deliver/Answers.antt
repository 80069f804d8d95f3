use Rattle.definitions_execution.proofs.Plans.{delivers}
use Rattle.definitions_execution.proofs.Classes.{gives_required}
use Rattle.definitions_execution.proofs.Working.{arranges}
use Rattle.definitions_execution.proofs.plans_deliver.Goals as goal

pub returns-clause-each : goal.returns-clause-each
returns-clause-each c space stored fits plan is = delivers space stored fits plan is

pub returns-clause-arranged : goal.returns-clause-arranged
returns-clause-arranged c space stored fits plan is = arranges space stored fits plan is

pub returns-clause-required : goal.returns-clause-required
returns-clause-required c space stored fits plan is gives = gives_required space stored fits plan is gives
