-- What is known of a block, and of the composites that its plan gives, before they are taken.
use Rattle.std.specs.Prelude.{◌≡◌, true, List, map}
use Rattle.definitions.specs.Invariant.{IsDatabase}
use Rattle.definitions.specs.Binding.Answerable.{IsAnswerable}
use Rattle.definitions.specs.Queries.Answer.{is_grouped}
use Rattle.definitions.specs.Queries.Evaluation.{Combination}
use Rattle.definitions_execution.specs.OfBlock.{combination_of}
use Rattle.definitions_execution.specs.Stored.{Composite}
use Rattle.definitions_answers.specs.Ordered.{AreRequired}
use Rattle.filters.specs.Sources.{BlockSource, block_in, IsSurrounded}
use Rattle.block_answers.specs.Telling.{ArrangePassing}

pub record AreReady (source : BlockSource) (outer : List Combination) (all : List Composite) : Type 0 where
  pub answerable : IsAnswerable (block_in source)
  pub valid : IsDatabase source.database
  pub surrounded : IsSurrounded source outer
  pub arranged : ArrangePassing source outer all
  pub ordered : AreRequired (block_in source) (map (combination_of source.database (block_in source)) all)

-- of a block that is grouped
pub record CanGroup (source : BlockSource) (outer : List Combination) : Type 0 where
  pub grouped : is_grouped (block_in source) ≡ true
  pub answerable : IsAnswerable (block_in source)
  pub valid : IsDatabase source.database
  pub surrounded : IsSurrounded source outer

-- of any block
pub record CanAnswer (source : BlockSource) (outer : List Combination) : Type 0 where
  pub answerable : IsAnswerable (block_in source)
  pub valid : IsDatabase source.database
  pub surrounded : IsSurrounded source outer
