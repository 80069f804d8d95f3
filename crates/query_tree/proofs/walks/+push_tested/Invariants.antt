use Rattle.std.proofs.Common.{◌≡◌, ◌++◌, drop}
use Rattle.definitions.specs.Queries.Conjuncts.{tested_blocks}
use Rattle.query_tree.specs.Bound.{condition_of}
use Rattle.query_tree.proofs.Walked.{parts_tested}
use Rattle.query_tree.proofs.walks.+push_tested.Given as goal

abbrev pub decreases-push_tested : goal.decreases-push_tested
decreases-push_tested l = goal.size-push_tested l

abbrev pub invariant-loop-part : goal.invariant-loop-part
invariant-loop-part l = l.blocks.items ++ parts_tested (drop l.part-index l.part-items) ≡ l.fn.blocks.items ++ tested_blocks (condition_of l.condition)
