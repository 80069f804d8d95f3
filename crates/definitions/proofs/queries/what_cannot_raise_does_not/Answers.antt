use Rattle.definitions.proofs.QueryTheory.NoRaise as q
use Rattle.definitions.proofs.queries.what_cannot_raise_does_not.Goals as goal

pub returns-clause-value : goal.returns-clause-value
returns-clause-value c env e h r = q.what_cannot_raise_does_not env e h r

pub returns-clause-truth : goal.returns-clause-truth
returns-clause-truth c env cond h r = q.conditions_that_cannot_raise_do_not env cond h r
