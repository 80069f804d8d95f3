use Rattle.definitions_answers.proofs.Plain as q
use Rattle.definitions_answers.proofs.plain_blocks_are_told.Goals as goal

pub returns : goal.returns
returns c context b all plain arranged = q.plain_told context b all plain arranged
