use Rattle.std.proofs.Common.{◌≡◌, ◌++◌, drop}
use Rattle.query_tree.specs.Walks.{trees_of}
use Rattle.subqueries.proofs.Texts.{function_arguments}
use Rattle.subqueries.proofs.block_text.push_arguments.Given as goal

abbrev pub invariant-functions : goal.invariant-functions
invariant-functions l = trees_of l.values.items ++ function_arguments (drop l.function-index l.functions) ≡ trees_of l.fn.values.items ++ function_arguments l.functions
