-- A block of a database, whose plans are those of a version of the plan space.
use Rattle.definitions.specs.Table.{Database}
use Rattle.definitions.specs.Estimates.BlockSpace.{space_of}
use Rattle.definitions.specs.Estimates.Version.{Version}
use Rattle.definitions.specs.Plans.Space.{Space}
use Rattle.query_tree.specs.Bound.{block_of}
use Rattle.query_tree.specs.declared.block.Block.{Block}

pub record Planned : Type 0 where
  pub version : Version
  pub database : Database
  pub block : Block

unfoldable pub space_in : Planned → Space
space_in p = space_of p.version p.database (block_of p.block)
