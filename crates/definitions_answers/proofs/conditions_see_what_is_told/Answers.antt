use Rattle.definitions_answers.proofs.Told as q
use Rattle.definitions_answers.proofs.Late as late
use Rattle.definitions_answers.proofs.conditions_see_what_is_told.Goals as goal

pub returns-clause-one : goal.returns-clause-one
returns-clause-one c env told condition h = q.conditions_see_what_is_told env told condition h

pub returns-clause-all : goal.returns-clause-all
returns-clause-all c env told conditions h = late.late_conjuncts_see_what_is_told env told conditions h
