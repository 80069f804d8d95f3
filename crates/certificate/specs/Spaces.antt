-- What the plan spaces of this crate are of.
use Rattle.std.specs.Prelude.{◌≡◌, length, map}
use Rattle.definitions.specs.Certificates.CertifiedBlock as c
use Rattle.certificate.specs.Blocks.{columns_in}
use Rattle.plan_tree.specs.Versions.{version_of}
use Rattle.plan_space.specs.Planned.{space_in}
use Rattle.certificate.specs.declared.block_space.BlockSpace.{BlockSpace}

-- all of a block
pub record IsBlockSpace (block : c.CertifiedBlock) (s : BlockSpace) : Type 0 where
  pub space : block.space ≡ space_in s.space
  pub version : block.version ≡ version_of s.version
  pub number : block.number ≡ s.number
  pub indexes : block.indexes ≡ map columns_in s.indexes.items
  pub tables : block.space.table_count ≡ length s.indexes.items
  pub conjuncts : length block.space.conjuncts ≡ s.conjunct_count
