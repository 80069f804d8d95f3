-- A block of a database, whose rows are read in given surroundings.
use Rattle.std.specs.Prelude.{ℕ, ◌<◌, ◌≡◌, List, [], length, Some}
use Rattle.definitions.specs.Table.{Index, Database}
use Rattle.definitions.specs.Arithmetic.{Is}
use Rattle.definitions.specs.Plans.TableSet.{TableSet}
use Rattle.definitions.specs.Plans.Path.{Path, table_of}
use Rattle.definitions.specs.Plans.PlanSpace.{IsPath}
use Rattle.definitions.specs.Queries.BoundBlock as spec
use Rattle.definitions.specs.Queries.BoundBlock.{Blocks}
use Rattle.definitions.specs.Queries.Evaluation.{Combination, Environment}
use Rattle.definitions.specs.Queries.Combinations.{Context, at}
use Rattle.definitions.specs.Binding.Formed.{IsFormedBlock}
use Rattle.definitions.specs.Estimates.BlockTables.{index_at}
use Rattle.definitions.specs.Estimates.Version.{Version}
use Rattle.definitions.specs.Estimates.BlockSpace.{space_of}
use Rattle.query_tree.specs.Bound.{block_of}
use Rattle.query_tree.specs.declared.block.Block.{Block}
use Rattle.definitions_execution.specs.Stored.{Composite, Stored}
use Rattle.definitions_execution.specs.OfBlock.{combination_of, stored_of}
use Rattle.definitions_execution.specs.TypedCombinations.{AreTypedAround}

pub record BlockSource : Type 0 where
  pub database : Database
  pub block : Block

abbrev pub block_in : BlockSource → spec.Block
block_in source = block_of source.block

-- how many tables the block has
abbrev pub width_in : BlockSource → ℕ
width_in source = length (block_in source).tables

-- the block is formed in blocks whose rows have types
abbrev pub IsSurrounded : BlockSource → List Combination → Type 0
IsSurrounded source outer =
    (blocks : Blocks) × (around : Blocks) × (n : ℕ) × IsFormedBlock source.database blocks around n (block_in source)
    × AreTypedAround source.database around outer

-- an index of a table of the block, by number
abbrev pub IsIndexOf : BlockSource → ℕ → ℕ → Type 0
IsIndexOf source table number = (i : Index) × (index_at source.database (block_in source) table number ≡ Some i)

-- what early conjuncts are evaluated in: they ask for no inner block
abbrev pub context_in : BlockSource → List Combination → Context
context_in source outer = record { database = source.database; outer = outer; inner = λ block combinations. Is [] }

abbrev pub environment_at : BlockSource → List Combination → Composite → Environment
environment_at source outer composite =
    at (context_in source outer) (combination_of source.database (block_in source) composite)

abbrev pub stored_in : BlockSource → List Combination → Stored
stored_in source outer = stored_of (context_in source outer) (block_in source)

-- a path of a table of the block, in some version of its plan space, where the rows of some tables are known
pub record IsPathOf (source : BlockSource) (path : Path) : Type 0 where
  pub version : Version
  pub tables : TableSet
  pub table : table_of path < length (block_in source).tables
  pub there : IsPath (space_of version source.database (block_in source)) tables path
