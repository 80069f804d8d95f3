use Rattle.definitions_answers.proofs.Blocks as q
use Rattle.definitions_answers.proofs.blocks_go_by_parameters.Goals as goal

pub returns-clause-meaning : goal.returns-clause-meaning
returns-clause-meaning c db blocks k outer outer' e = q.meaning_by_parameters db blocks k outer outer' e

pub returns-clause-total : goal.returns-clause-total
returns-clause-total c version db blocks plans k outer outer' e = q.total_by_parameters version db blocks plans k outer outer' e

pub returns-clause-uncorrelated : goal.returns-clause-uncorrelated
returns-clause-uncorrelated c db blocks k outer outer' e = q.uncorrelated db blocks k outer outer' e
