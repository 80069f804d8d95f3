use Rattle.std.proofs.Common.{◌≡◌, ◌++◌, drop}
use Rattle.definitions.specs.Queries.Conjuncts.{compared_blocks}
use Rattle.query_tree.specs.Bound.{condition_of}
use Rattle.query_tree.proofs.Walked.{parts_compared}
use Rattle.query_tree.proofs.walks.+push_compared.Given as goal

abbrev pub decreases-push_compared : goal.decreases-push_compared
decreases-push_compared l = goal.size-push_compared l

abbrev pub invariant-loop-part : goal.invariant-loop-part
invariant-loop-part l = l.blocks.items ++ parts_compared (drop l.part-index l.part-items) ≡ l.fn.blocks.items ++ compared_blocks (condition_of l.condition)
