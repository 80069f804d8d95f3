use Rattle.definitions_answers.proofs.Exists as q
use Rattle.definitions_answers.proofs.exists_sees_any.Goals as goal

pub returns-clause-kept : goal.returns-clause-kept
returns-clause-kept c context b all plain arranged quiet items = q.exists_is_any_kept context b all plain arranged quiet items

pub returns-clause-passing : goal.returns-clause-passing
returns-clause-passing c context b all plain arranged none items = q.exists_is_any_passing context b all plain arranged none items
