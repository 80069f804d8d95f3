use Rattle.std.proofs.Common.{◌≡◌, ◌++◌, drop}
use Rattle.std.specs.Prelude.{flat_map}
use Rattle.definitions_answers.specs.Parameters.{asked_blocks, own_parameters, parameters_in}
use Rattle.query_tree.specs.Bound.{block_of}
use Rattle.query_tree.specs.Walks.{trees_of}
use Rattle.subqueries.specs.OuterColumns.{inner_parameters, outer_columns_of}
use Rattle.subqueries.proofs.parameters.parameters_of.Given as goal

abbrev pub invariant-values : goal.invariant-values
invariant-values l = outer_columns_of l.columns.items ++ flat_map parameters_in (trees_of (drop l.value-index l.value-items)) ≡ own_parameters (block_of l.block)

abbrev pub invariant-numbers : goal.invariant-numbers
invariant-numbers l = outer_columns_of l.columns.items ++ inner_parameters l.inner (drop l.number-index l.number-items) ≡ own_parameters (block_of l.block) ++ inner_parameters l.inner (asked_blocks (block_of l.block))
