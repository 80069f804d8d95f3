-- A block of a database, whose rows are estimated.
use Rattle.std.specs.Prelude.{ℕ}
use Rattle.definitions.specs.Table.{Database}
use Rattle.definitions.specs.Queries.BoundBlock as spec
use Rattle.definitions.specs.Binding.Formed.{IsFormedBlock}
use Rattle.query_tree.specs.declared.block.Block.{Block}

pub record Estimated : Type 0 where
  pub database : Database
  pub block : Block

-- the block is formed, whatever the blocks around it
abbrev pub IsFormed : Database → spec.Block → Type 0
IsFormed db block = (blocks : spec.Blocks) × (around : spec.Blocks) × (n : ℕ) × IsFormedBlock db blocks around n block
