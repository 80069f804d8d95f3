use Rattle.std.proofs.Common.{◌≡◌, ◌++◌, drop}
use Rattle.definitions_answers.specs.Parameters.{lowered}
use Rattle.subqueries.specs.OuterColumns.{outer_columns_of}
use Rattle.subqueries.proofs.parameters.push_lowered.Given as goal

abbrev pub invariant-columns : goal.invariant-columns
invariant-columns l = outer_columns_of l.columns.items ++ lowered (outer_columns_of (drop l.outer-index l.inner)) ≡ outer_columns_of l.fn.columns.items ++ lowered (outer_columns_of l.inner)
