use Rattle.definitions_answers.proofs.Kept as q
use Rattle.definitions_answers.proofs.kept_is_right.Goals as goal

pub returns : goal.returns
returns c version db blocks plans k outer told total tells is outer' same = q.kept_is_right version db blocks plans k outer told total tells is outer' same
