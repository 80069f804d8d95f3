-- A comparison of a column with a number, on a row of its table and on a composite.
use Rattle.std.specs.Prelude.{ℕ, Bool}
use Rattle.definitions.specs.Truth.{compared, is_true}
use Rattle.definitions.specs.Queries.Evaluation.{cell}
use Rattle.definitions_execution.specs.OfBlock.{combination_of}
use Rattle.definitions_execution.specs.Stored.{Composite}
use Rattle.sqlvalue.specs.Meaning.{number_of, op_of}
use Rattle.sqlvalue.specs.declared.number.Num.{Num}
use Rattle.sqlvalue.specs.declared.op.ComparisonOperator.{ComparisonOperator}
use Rattle.query_tree.specs.Bound.{column_of}
use Rattle.query_tree.specs.declared.leaf.BlockColumn.{BlockColumn}
use Rattle.filters.specs.Sources.{block_in, BlockSource}
use Rattle.filters.specs.SearchArguments.{value_in}

-- it is true (ISO/IEC 9075:1992, 8.2)
abbrev pub is_met_in : BlockSource → BlockColumn → ComparisonOperator → Num → (row : ℕ) → Bool
is_met_in source column op number row =
    is_true (compared (op_of op) (value_in source column.table column.number row) (number_of number))

abbrev pub is_met_at : BlockSource → BlockColumn → ComparisonOperator → Num → Composite → Bool
is_met_at source column op number composite =
    is_true
    (compared (op_of op) (cell (combination_of source.database (block_in source) composite) (column_of column))
    (number_of number))
