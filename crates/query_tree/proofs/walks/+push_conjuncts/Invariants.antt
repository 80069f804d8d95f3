use Rattle.std.proofs.Common.{◌≡◌, ◌++◌, drop}
use Rattle.definitions.specs.Queries.Conjuncts.{conjuncts_of}
use Rattle.query_tree.specs.Bound.{condition_of}
use Rattle.query_tree.specs.Walks.{conditions_in}
use Rattle.query_tree.proofs.Walked.{parts_conjuncts}
use Rattle.query_tree.proofs.walks.+push_conjuncts.Given as goal

abbrev pub decreases-push_conjuncts : goal.decreases-push_conjuncts
decreases-push_conjuncts l = goal.size-push_conjuncts l

abbrev pub invariant-loop-part : goal.invariant-loop-part
invariant-loop-part l = conditions_in l.conjuncts.items ++ parts_conjuncts (drop l.part-index l.part-items) ≡ conditions_in l.fn.conjuncts.items ++ conjuncts_of (condition_of l.condition)
