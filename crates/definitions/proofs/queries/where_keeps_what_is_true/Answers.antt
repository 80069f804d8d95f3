use Rattle.definitions.proofs.QueryTheory.Lemmas as q
use Rattle.definitions.proofs.queries.where_keeps_what_is_true.Goals as goal

pub returns : goal.returns
returns c context b = q.where_keeps_what_is_true context b
