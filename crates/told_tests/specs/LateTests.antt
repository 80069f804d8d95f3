-- Late conjuncts on a composite, by what was told last of their subqueries.
use Rattle.std.specs.Prelude.{Bool, List}
use Rattle.std.specs.List.{AllByRecursion}
use Rattle.definitions.specs.Arithmetic.{Raise}
use Rattle.definitions.specs.Queries.BoundBlock.{Condition}
use Rattle.definitions.specs.Queries.Combinations.{at}
use Rattle.definitions.specs.Queries.Evaluation.{Combination, Environment}
use Rattle.definitions_answers.specs.Told.{told_environment}
use Rattle.definitions_execution.specs.OfBlock.{combination_of}
use Rattle.definitions_execution.specs.Stored.{Composite}
use Rattle.filters.specs.Evaluable.{CanEvaluate}
use Rattle.filters.specs.Sources.{block_in, context_in, BlockSource}
use Rattle.subqueries.specs.Keeping.{told_by}
use Rattle.subqueries.specs.declared.kept_results.KeptResults.{KeptResults}
use Rattle.block_answers.specs.OneComposite.{are_true_in, raised_in}

module _ (source : BlockSource) (outer : List Combination) (results : List KeptResults) where
  abbrev pub told_at : Composite → Environment
  told_at composite = told_environment
      (at (context_in source outer) (combination_of source.database (block_in source) composite)) (told_by results)

  module _ (late : List Condition) where
    -- all of them can be evaluated; are true; what they raise
    abbrev pub CanTryAt : Composite → Type 0
    CanTryAt composite = AllByRecursion (CanEvaluate (told_at composite)) late

    abbrev pub are_true_at : Composite → Bool
    are_true_at composite = are_true_in (told_at composite) late

    abbrev pub raised_at : Composite → List Raise
    raised_at composite = raised_in (told_at composite) late
