use Rattle.std.proofs.Common.{rules}
use Rattle.indexes.specs.Merging.{is_behind}
use Rattle.indexes.proofs.merging.is_behind.Goals as goal

pub returns : goal.returns
unfolding is_behind
returns c = search rules
