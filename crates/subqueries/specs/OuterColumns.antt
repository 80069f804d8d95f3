-- The parameters of blocks, as code keeps them.
use Rattle.std.specs.Prelude.{ℕ, List, [], Option, Some, None, flat_map, map, slice_get}
use Rattle.std.specs.Global.{Vec}
use Rattle.definitions_answers.specs.Parameters as p
use Rattle.definitions_answers.specs.Parameters.{lowered}
use Rattle.query_tree.specs.Bound.{column_of}
use Rattle.subqueries.specs.declared.parameters.OuterColumn.{OuterColumn}

abbrev pub outer_column_of : OuterColumn → p.OuterColumn
outer_column_of c = record { between = c.between; column = column_of c.column }

abbrev pub outer_columns_of : List OuterColumn → List p.OuterColumn
outer_columns_of = map outer_column_of

-- of the block of a number; none past the last
abbrev pub columns_of_option : Option (Vec OuterColumn) → List p.OuterColumn
columns_of_option None = []
columns_of_option (Some columns) = outer_columns_of columns.items

abbrev pub parameters_at : List (Vec OuterColumn) → ℕ → List p.OuterColumn
parameters_at all number = columns_of_option (slice_get all number)

-- of inner blocks, as the block around them has them
abbrev pub inner_parameters : List (Vec OuterColumn) → List ℕ → List p.OuterColumn
inner_parameters all numbers = flat_map (λ number. lowered (parameters_at all number)) numbers
