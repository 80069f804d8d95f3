-- All set functions of a group.
use Rattle.std.specs.Prelude.{List, map}
use Rattle.std.specs.List.{AllByRecursion}
use Rattle.definitions.specs.Queries.BoundBlock as b
use Rattle.definitions.specs.Queries.Evaluation.{Environment}
use Rattle.query_tree.specs.Bound.{bound_function_of}
use Rattle.grouping.specs.Functions.{IsOf}
use Rattle.grouping.specs.declared.functions.FunctionState.{FunctionState}
use Rattle.grouping.specs.declared.functions.GroupFunctions.{GroupFunctions}

abbrev pub function_of_state : FunctionState → b.Aggregate
function_of_state s = bound_function_of s.function.now

abbrev pub functions_of : GroupFunctions → List b.Aggregate
functions_of g = map function_of_state g.states.items

-- each is of these rows
abbrev pub IsStateOf : List Environment → FunctionState → Type 0
IsStateOf envs s = IsOf envs (function_of_state s) s.aggregation

abbrev pub AreOf : List Environment → GroupFunctions → Type 0
AreOf envs g = AllByRecursion (IsStateOf envs) g.states.items
