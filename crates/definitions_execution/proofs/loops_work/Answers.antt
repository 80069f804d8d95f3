use Rattle.definitions_execution.proofs.Giving.{work_law}
use Rattle.definitions_execution.proofs.loops_work.Goals as goal

pub returns : goal.returns
returns c q d p a l w = work_law q d p a l w
