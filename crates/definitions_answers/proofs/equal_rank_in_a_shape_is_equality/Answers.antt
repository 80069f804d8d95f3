use Rattle.definitions_answers.proofs.Aggregates.{equal_rank_in_a_shape}
use Rattle.definitions_answers.proofs.equal_rank_in_a_shape_is_equality.Goals as goal

pub returns : goal.returns
returns c shape v w h l e = equal_rank_in_a_shape shape v w h l e
