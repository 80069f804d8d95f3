use Rattle.definitions.proofs.QueryTheory.TypedValues as q
use Rattle.definitions.proofs.queries.values_have_their_types.Goals as goal

pub returns : goal.returns
returns c env e type h is = q.values_have_their_types env e type h is
