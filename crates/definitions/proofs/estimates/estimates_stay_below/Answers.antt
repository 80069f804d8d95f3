use Rattle.definitions.proofs.EstimateTheory.Complete.{path_small}
use Rattle.definitions.proofs.EstimateTheory.Bounded.{selectivity_small, cardinality_small, sort_small, path_rows_small}
use Rattle.definitions.proofs.estimates.estimates_stay_below.Goals as goal

pub returns : goal.returns
returns c db block = (selectivity_small db block, cardinality_small db block, sort_small db block, path_small db block, path_rows_small db block)
