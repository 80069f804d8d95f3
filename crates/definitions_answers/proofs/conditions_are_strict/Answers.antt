use Rattle.definitions_answers.proofs.Strict as q
use Rattle.definitions_answers.proofs.conditions_are_strict.Goals as goal

pub returns : goal.returns
returns c env condition h = q.conditions_are_strict env condition h
