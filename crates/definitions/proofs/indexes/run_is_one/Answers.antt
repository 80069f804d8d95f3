use Rattle.definitions.proofs.IndexRuns.{run_once}
use Rattle.definitions.proofs.indexes.run_is_one.Goals as goal

pub returns : goal.returns
returns c = run_once
