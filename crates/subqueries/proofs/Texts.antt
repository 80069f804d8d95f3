-- The parts of blocks and values, as code keeps them.
use Rattle.std.proofs.Common.{List, map}
use Rattle.definitions.specs.Queries.BoundBlock as b
use Rattle.definitions_answers.specs.Parameters.{OuterColumn, arguments_of, operand_parameters}
use Rattle.query_tree.specs.Bound.{bound_function_of, operand_of, operands}
use Rattle.query_tree.specs.declared.block.Aggregate.{Aggregate}
use Rattle.query_tree.specs.declared.value.Operand.{Operand}

-- the arguments of set functions
abbrev pub function_arguments : List Aggregate → List b.ValueExpr
function_arguments fs = arguments_of (map bound_function_of fs)

-- the operands of a line
abbrev pub line_parameters : List Operand → List OuterColumn
line_parameters xs = operand_parameters (operands (map operand_of xs))
