use Rattle.definitions_execution.proofs.Merges.{merges}
use Rattle.definitions_execution.proofs.merge_goes_in_step.Goals as goal

pub returns : goal.returns
returns c space stored fits outer number inner is = merges space stored fits outer number inner is
