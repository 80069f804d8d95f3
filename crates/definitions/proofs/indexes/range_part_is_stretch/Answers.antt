use Rattle.definitions.proofs.IndexParts.{range_stretch}
use Rattle.definitions.proofs.indexes.range_part_is_stretch.Goals as goal

pub returns : goal.returns
returns c = range_stretch
