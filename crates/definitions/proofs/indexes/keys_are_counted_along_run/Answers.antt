use Rattle.definitions.proofs.KeyCounts.{counted_along}
use Rattle.definitions.proofs.indexes.keys_are_counted_along_run.Goals as goal

pub returns : goal.returns
returns c = counted_along
