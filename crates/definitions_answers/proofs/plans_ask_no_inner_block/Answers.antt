use Rattle.definitions_answers.proofs.Working as q
use Rattle.definitions_answers.proofs.plans_ask_no_inner_block.Goals as goal

pub returns-clause-passing : goal.returns-clause-passing
returns-clause-passing c db outer inner inner' b = q.passing_asks db outer inner inner' b

pub returns-clause-work : goal.returns-clause-work
returns-clause-work c version db outer inner inner' b plan is = q.work_asks version db outer inner inner' b plan is
