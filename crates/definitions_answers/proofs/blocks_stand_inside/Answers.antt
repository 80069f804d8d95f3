use Rattle.definitions_answers.proofs.Standing as q
use Rattle.definitions_answers.proofs.blocks_stand_inside.Goals as goal

pub returns-clause-formed : goal.returns-clause-formed
returns-clause-formed c db blocks k b outer e stands = q.standing_are_formed db blocks k b outer e stands

pub returns-clause-inside : goal.returns-clause-inside
returns-clause-inside c db blocks k b outer d e stands own = q.subqueries_stand_inside db blocks k b outer d e stands own
