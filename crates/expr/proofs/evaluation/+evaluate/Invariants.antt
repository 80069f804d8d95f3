use Rattle.std.proofs.Common.{map, drop}
use Rattle.definitions.specs.Queries.Evaluation as meaning
use Rattle.query_tree.specs.Bound.{operand_of, operands, value_of as tree_of}
use Rattle.expr.specs.Answers.{answer_of}
use Rattle.expr.proofs.Chains.{Reached}
use Rattle.expr.proofs.evaluation.+evaluate.Given as goal

abbrev pub decreases-evaluate : goal.decreases-evaluate
decreases-evaluate g l = goal.size-evaluate g l

abbrev pub invariant-loop-operand : goal.invariant-loop-operand
invariant-loop-operand g l = Reached (g.S.Environment.environment l.env) (meaning.value (g.S.Environment.environment l.env) (tree_of l.expr)) (operands (map operand_of (drop l.operand-index l.operand-items))) (answer_of l.left)
