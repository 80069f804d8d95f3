use Rattle.definitions_answers.proofs.Steps as q
use Rattle.definitions_answers.proofs.blocks_go_by_steps.Goals as goal

pub returns-clause-behind : goal.returns-clause-behind
returns-clause-behind c db blocks around n b formed = q.formed_ask_behind db blocks around n b formed

pub returns-clause-meaning : goal.returns-clause-meaning
returns-clause-meaning c db blocks k b outer at behind = q.meaning_by_one_step db blocks k b outer at behind

pub returns-clause-passing : goal.returns-clause-passing
returns-clause-passing c db blocks b outer = q.passing_by_one_step db blocks b outer

pub returns-clause-total : goal.returns-clause-total
returns-clause-total c version db blocks plans k b p outer all at plan behind within arranged = q.total_by_one_step version db blocks plans k b p outer all at plan behind within arranged
