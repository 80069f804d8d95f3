use Rattle.definitions.proofs.IndexParts.{equal_stretch}
use Rattle.definitions.proofs.indexes.equal_part_is_stretch.Goals as goal

pub returns : goal.returns
returns c = equal_stretch
