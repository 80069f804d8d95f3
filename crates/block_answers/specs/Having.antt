-- HAVING in an environment.
use Rattle.std.specs.Prelude.{⊤, Option, Some, None}
use Rattle.definitions.specs.Queries.BoundBlock.{Condition}
use Rattle.definitions.specs.Queries.Evaluation.{Environment}
use Rattle.filters.specs.Evaluable.{CanEvaluate}

-- it can be evaluated, if it is there
abbrev pub CanHave : Environment → Option Condition → Type 0
CanHave env None = ⊤
CanHave env (Some c) = CanEvaluate env c
