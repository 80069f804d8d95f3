use Rattle.definitions_execution.proofs.Giving.{arranged_law}
use Rattle.definitions_execution.proofs.given_is_arranged.Goals as goal

pub returns : goal.returns
returns c q d p l w = arranged_law q d p l w
