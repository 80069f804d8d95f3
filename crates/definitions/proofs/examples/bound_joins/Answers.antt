use Rattle.definitions.proofs.EstimateTheory.BoundExamples.{blocks_are_bound}
use Rattle.definitions.proofs.examples.bound_joins.Goals as goal

pub returns : goal.returns
returns c = blocks_are_bound
