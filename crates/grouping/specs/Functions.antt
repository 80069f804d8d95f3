-- Set functions of the rows of a group.
use Rattle.std.specs.Prelude.{pos, ◌≡◌, ⊤, is_some, Bool, false, List, [], flat_map, map}
use Rattle.std.specs.List.{AllByRecursion}
use Rattle.definitions.specs.Value.{Value, Number}
use Rattle.definitions.specs.Arithmetic.{Raise, Meaning, Is}
use Rattle.definitions.specs.Statement.{SetFunction, Count}
use Rattle.definitions.specs.Queries.BoundBlock as b
use Rattle.definitions.specs.Queries.Combinations.{raises_of}
use Rattle.definitions.specs.Queries.Evaluation.{Environment, and_then, value}
use Rattle.definitions.specs.Queries.Grouping.{aggregate, all_results, results, taken}
use Rattle.definitions.specs.Queries.Laws.{FitsTypes}
use Rattle.definitions_answers.specs.GroupRows.{MeansShape}
use Rattle.definitions_answers.specs.Shapes.{Shape, Sums}
use Rattle.parse_tree.specs.Trees.{function_of}
use Rattle.expr.specs.Answers.{IsTyped}
use Rattle.grouping.specs.Aggregating.{Aggregates}
use Rattle.grouping.specs.declared.aggregation.Aggregation.{Aggregation}

-- which function of which values it is; COUNT(*) counts a number in each row
abbrev pub kind_of : b.Aggregate → SetFunction
kind_of b.CountRows = Count
kind_of (b.OfValues kind distinct argument) = kind

abbrev pub is_distinct : b.Aggregate → Bool
is_distinct b.CountRows = false
is_distinct (b.OfValues kind distinct argument) = distinct

abbrev pub argument_in : Environment → b.Aggregate → Meaning Value
argument_in env b.CountRows = Is (Number (pos 0) 0)
argument_in env (b.OfValues kind distinct argument) = value env argument

-- the argument can be evaluated
abbrev pub CanTake : Environment → b.Aggregate → Type 0
CanTake env b.CountRows = ⊤
CanTake env (b.OfValues kind distinct argument) = FitsTypes env argument × IsTyped argument

-- it is COUNT(*)
abbrev pub CountsRows : b.Aggregate → Type 0
CountsRows f = f ≡ b.CountRows

-- what arguments raise in a row
abbrev pub argument_raises : Environment → List b.Aggregate → List Raise
argument_raises env fs = flat_map (λ f. raises_of (argument_in env f)) fs

-- in the rows of a group: the arguments, and the function's value
abbrev pub arguments_in : List Environment → b.Aggregate → List (Meaning Value)
arguments_in envs f = map (λ env. argument_in env f) envs

abbrev pub function_in : List Environment → b.Aggregate → Meaning Value
function_in envs f =
    and_then (λ vs. aggregate (kind_of f) (taken (is_distinct f) vs)) (all_results (arguments_in envs f))

-- arguments have a shape, that of numbers for a sum
abbrev pub IsShaped : List Environment → b.Aggregate → Type 0
IsShaped envs f = (shape : Shape) × Sums (kind_of f) shape × AllByRecursion (MeansShape shape) (arguments_in envs f)

-- an aggregation is of the argument in these rows, where it raises nothing
pub record IsOf (envs : List Environment) (f : b.Aggregate) (a : Aggregation) : Type 0 where
  pub kind : function_of a.running.function ≡ kind_of f
  pub distinct : is_some a.seen ≡ is_distinct f
  pub quiet : flat_map raises_of (arguments_in envs f) ≡ []
  pub values : (shape : Shape) → Sums (kind_of f) shape → AllByRecursion (MeansShape shape) (arguments_in envs f)
      → Aggregates shape (taken false (results (arguments_in envs f))) a

-- the same with the values of set functions
abbrev pub with_functions : Environment → List Value → Environment
with_functions env values =
    record { combination = env.combination; outer = env.outer; functions = map Is values; inner = env.inner }
