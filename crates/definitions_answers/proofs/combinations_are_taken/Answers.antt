use Rattle.definitions_answers.proofs.Taking as q
use Rattle.definitions_answers.proofs.combinations_are_taken.Goals as goal

pub returns-clause-one : goal.returns-clause-one
returns-clause-one c context b done d found late row h says told = q.one_more_is_told context b done d found late row h says told

pub returns-clause-all : goal.returns-clause-all
returns-clause-all c context b all found plain arranged h = q.all_are_told context b all found plain arranged h
