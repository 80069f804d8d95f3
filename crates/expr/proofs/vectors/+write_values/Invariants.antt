use Rattle.std.proofs.Common.{ℕ, ◌≡◌, ◌+◌, ◌<◌, map, drop}
use Rattle.definitions.specs.Arithmetic.{Is}
use Rattle.definitions.specs.Queries.Evaluation as meaning
use Rattle.query_tree.specs.Bound.{operand_of, operands, value_of as tree_of}
use Rattle.expr.specs.Vectors.{value_at}
use Rattle.expr.proofs.vectors.+write_values.Given as goal

abbrev pub decreases-write_values : goal.decreases-write_values
decreases-write_values g l = goal.size-write_values g l

-- what is calculated so far goes on to what the whole means
abbrev pub invariant-loop-operand : goal.invariant-loop-operand
invariant-loop-operand g l =
    (k : ℕ) → k < l.count → meaning.chained (g.S.ManyRows.environment l.rows (l.first + k)) (Is (value_at l.scale l.units k)) (operands (map operand_of (drop l.operand-index l.operand-items)))
    ≡ meaning.value (g.S.ManyRows.environment l.rows (l.first + k)) (tree_of l.expr)
