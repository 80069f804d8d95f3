use Rattle.std.proofs.Common.{◌≡◌, ◌++◌, drop}
use Rattle.definitions.specs.Queries.Conjuncts as conjuncts
use Rattle.query_tree.specs.Bound.{condition_of}
use Rattle.query_tree.specs.Walks.{trees_of}
use Rattle.query_tree.proofs.Walked.{parts_values}
use Rattle.query_tree.proofs.walks.+push_values.Given as goal

abbrev pub decreases-push_values : goal.decreases-push_values
decreases-push_values l = goal.size-push_values l

abbrev pub invariant-loop-part : goal.invariant-loop-part
invariant-loop-part l = trees_of l.values.items ++ parts_values (drop l.part-index l.part-items) ≡ trees_of l.fn.values.items ++ conjuncts.values_of (condition_of l.condition)
