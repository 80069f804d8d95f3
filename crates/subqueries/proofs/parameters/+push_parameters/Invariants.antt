use Rattle.std.proofs.Common.{◌≡◌, ◌++◌, drop}
use Rattle.definitions_answers.specs.Parameters.{parameters_in}
use Rattle.query_tree.specs.Bound.{value_of}
use Rattle.subqueries.specs.OuterColumns.{outer_columns_of}
use Rattle.subqueries.proofs.Texts.{line_parameters}
use Rattle.subqueries.proofs.parameters.+push_parameters.Given as goal

abbrev pub decreases-push_parameters : goal.decreases-push_parameters
decreases-push_parameters l = goal.size-push_parameters l

abbrev pub invariant-loop-operand : goal.invariant-loop-operand
invariant-loop-operand l = outer_columns_of l.columns.items ++ line_parameters (drop l.operand-index l.operand-items) ≡ outer_columns_of l.fn.columns.items ++ parameters_in (value_of l.expr)
