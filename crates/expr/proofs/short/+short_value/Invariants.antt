use Rattle.std.proofs.Common.{◌≡◌, map, drop}
use Rattle.definitions.specs.Arithmetic.{Is}
use Rattle.definitions.specs.Queries.Evaluation as meaning
use Rattle.query_tree.specs.Bound.{operand_of, operands, value_of as tree_of}
use Rattle.expr.specs.Shorts.{short_of}
use Rattle.expr.proofs.short.+short_value.Given as goal

abbrev pub decreases-short_value : goal.decreases-short_value
decreases-short_value g l = goal.size-short_value g l

-- what is calculated so far goes on to what the whole means
abbrev pub invariant-loop-operand : goal.invariant-loop-operand
invariant-loop-operand g l =
    meaning.chained (g.S.Environment.environment l.env) (Is (short_of l.left)) (operands (map operand_of (drop l.operand-index l.operand-items)))
    ≡ meaning.value (g.S.Environment.environment l.env) (tree_of l.expr)
