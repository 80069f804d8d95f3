use Rattle.definitions_answers.proofs.Trying as q
use Rattle.definitions_answers.proofs.late_conjuncts_say_what_is_told.Goals as goal

pub returns : goal.returns
returns c db blocks b outer d told h = q.late_conjuncts_say db blocks b outer d told h
