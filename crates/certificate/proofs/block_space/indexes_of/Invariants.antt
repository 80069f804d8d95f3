use Rattle.std.proofs.Common.{◌≡◌, map, take}
use Rattle.definitions.specs.Certificates.Explaining.{index_columns_at}
use Rattle.query_tree.specs.Bound.{block_of}
use Rattle.certificate.specs.Blocks.{columns_in}
use Rattle.certificate.proofs.block_space.indexes_of.Given as goal

abbrev pub invariant-tables : goal.invariant-tables
invariant-tables l = map columns_in l.all.items ≡ map (index_columns_at l.estimate.database) (take l.number (block_of l.estimate.block).tables)
