use Rattle.definitions.proofs.QueryTheory.EqualValues as q
use Rattle.definitions.proofs.queries.equal_rank_in_a_type_is_equality.Goals as goal

pub returns : goal.returns
returns c type v w h l e = q.equal_rank_in_a_type_is_equality type v w h l e
