use Rattle.std.proofs.Common.{◌≡◌, map, take}
use Rattle.definitions.specs.Table.{Index}
use Rattle.certificate.specs.Blocks.{columns_in}
use Rattle.certificate.proofs.block_space.columns_of.Given as goal

abbrev pub invariant-indexes : goal.invariant-indexes
invariant-indexes l = columns_in l.all ≡ map (λ (i : Index). i.columns) (take l.number l.table.indexes)
