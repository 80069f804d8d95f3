-- What columns, pairs of them and terms stand for.
use Rattle.definitions.specs.Estimates.Paths as paths
use Rattle.definitions.specs.Plans.Order as o
use Rattle.query_tree.specs.Bound.{column_of, value_of}
use Rattle.query_tree.specs.declared.leaf.BlockColumn.{BlockColumn}
use Rattle.sqlvalue.specs.Meaning.{op_of}
use Rattle.predicates.specs.declared.column_term.ColumnTerm.{ColumnTerm}
use Rattle.predicates.specs.declared.column_term.ColumnTerm.TheVariants as c

abbrev pub pair_of : BlockColumn × BlockColumn → o.BlockColumn × o.BlockColumn
pair_of p = (column_of p.0, column_of p.1)

abbrev pub term_of : ColumnTerm → paths.ColumnTerm
term_of (c.Comparison op value) = paths.ByComparison (op_of op) (value_of value.now)
term_of (c.Range low high) = paths.ByBounds (value_of low.now) (value_of high.now)
