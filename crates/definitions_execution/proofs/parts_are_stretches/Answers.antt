use Rattle.definitions_execution.proofs.TypedRows.{equal_stretches, range_stretches}
use Rattle.definitions_execution.proofs.parts_are_stretches.Goals as goal

pub returns-clause-equal : goal.returns-clause-equal
returns-clause-equal c db block table index values valid = equal_stretches c.equal_part_is_stretch.ensures db block table index values valid

pub returns-clause-ranged : goal.returns-clause-ranged
returns-clause-ranged c db block table index values low high valid = range_stretches c.range_part_is_stretch.ensures db block table index values low high valid
