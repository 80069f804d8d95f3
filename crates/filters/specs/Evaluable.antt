-- Conditions whose values can be evaluated.
use Rattle.std.specs.List.{AllByRecursion}
use Rattle.definitions.specs.Queries.BoundBlock.{Condition}
use Rattle.definitions.specs.Queries.Conjuncts.{values_of}
use Rattle.definitions.specs.Queries.Evaluation.{Environment}
use Rattle.definitions.specs.Queries.Laws.{FitsTypes}
use Rattle.expr.specs.Answers.{IsTyped}

-- the values of a condition can be evaluated
pub record CanEvaluate (env : Environment) (condition : Condition) : Type 0 where
  pub fits : AllByRecursion (FitsTypes env) (values_of condition)
  pub typed : AllByRecursion IsTyped (values_of condition)
