-- Where a block of a statement stands: in blocks around it that are formed, at rows of them that have types.
use Rattle.std.specs.Prelude.{ℕ, ◌<◌, ◌≡◌, List, ◌∷◌, Some, length, slice_get}
use Rattle.std.specs.List.{AllByRecursion}
use Rattle.definitions.specs.Table.{Database}
use Rattle.definitions.specs.Queries.BoundBlock.{Block, Blocks}
use Rattle.definitions.specs.Queries.Evaluation.{Combination}
use Rattle.definitions.specs.Binding.Formed.{IsFormedBlock, AreFormed}
use Rattle.definitions_execution.specs.Total.{subqueries}
use Rattle.definitions_execution.specs.TypedCombinations.{IsTypedCombination, AreTypedAround}

abbrev pub Stands : Database → Blocks → ℕ → List Combination → Type 0
Stands db blocks k outer = (around : Blocks) × AreFormed db blocks around k × AreTypedAround db around outer

-- it is formed there
abbrev pub StandingBlocksAreFormed : Type 0
StandingBlocksAreFormed =
    (db : Database) (blocks : Blocks) (k : ℕ) (b : Block) (outer : List Combination) → slice_get blocks k ≡ Some b
    → Stands db blocks k outer
    → (around : Blocks) × IsFormedBlock db blocks around k b × AreTypedAround db around outer

-- and so stands each block that its late conjuncts ask for, at any rows of it that have types
pub record StandsInside (db : Database) (blocks : Blocks) (k : ℕ) (outer : List Combination) (j : ℕ) : Type 0 where
  pub behind : k < j
  pub there : j < length blocks
  pub stands : Stands db blocks j outer

abbrev pub SubqueriesStandInside : Type 0
SubqueriesStandInside =
    (db : Database) (blocks : Blocks) (k : ℕ) (b : Block) (outer : List Combination) (c : Combination)
    → slice_get blocks k ≡ Some b → Stands db blocks k outer → IsTypedCombination db b c
    → AllByRecursion (StandsInside db blocks k (c ∷ outer)) (subqueries b)
