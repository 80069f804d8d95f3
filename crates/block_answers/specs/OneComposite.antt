-- What conjuncts mean where a composite is given.
use Rattle.std.specs.Prelude.{Bool, List, flat_map}
use Rattle.std.specs.List.{list_all}
use Rattle.definitions.specs.Arithmetic.{Raise}
use Rattle.definitions.specs.Queries.BoundBlock.{Condition}
use Rattle.definitions.specs.Queries.Evaluation.{Environment, truth}
use Rattle.definitions.specs.Queries.Combinations.{is_surely_true, raises_of}

module _ (env : Environment) where
  abbrev pub are_true_in : List Condition → Bool
  are_true_in conditions = list_all (λ condition. is_surely_true (truth env condition)) conditions

  -- all are evaluated, and any of them may raise
  abbrev pub raised_in : List Condition → List Raise
  raised_in conditions = flat_map (λ condition. raises_of (truth env condition)) conditions
