use Rattle.std.proofs.Common.{◌≡◌, ◌++◌, drop}
use Rattle.definitions.specs.Queries.Conjuncts.{blocks_in}
use Rattle.query_tree.specs.Bound.{value_of}
use Rattle.query_tree.proofs.Walked.{line_blocks}
use Rattle.query_tree.proofs.walks.+push_blocks.Given as goal

abbrev pub decreases-push_blocks : goal.decreases-push_blocks
decreases-push_blocks l = goal.size-push_blocks l

abbrev pub invariant-loop-operand : goal.invariant-loop-operand
invariant-loop-operand l = l.blocks.items ++ line_blocks (drop l.operand-index l.operand-items) ≡ l.fn.blocks.items ++ blocks_in (value_of l.expr)
