use Rattle.std.proofs.Common.{map, take}
use Rattle.std.specs.List.{AllByRecursion}
use Rattle.query_tree.specs.Bound.{bound_function_of}
use Rattle.grouping.specs.Batches.{IsOfColumn}
use Rattle.block_answers.proofs.column_functions.are_of_columns.Given as goal

-- those before one are
abbrev pub invariant-functions : goal.invariant-functions
invariant-functions l = AllByRecursion (IsOfColumn l.width) (map bound_function_of (take l.function-index l.functions))
