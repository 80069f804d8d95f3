use Rattle.std.proofs.Common.{map, drop}
use Rattle.definitions.specs.Truth.{True, False, and, or, all_true, any_true}
use Rattle.query_tree.specs.Bound.{condition_of, conditions}
use Rattle.expr.specs.Answers.{truth_answer_of}
use Rattle.expr.proofs.Parts.{Joined, and_is, or_is}
use Rattle.expr.proofs.condition.+truth.Given as goal

abbrev pub decreases-truth : goal.decreases-truth
decreases-truth g l = goal.size-truth g l

abbrev pub invariant-loop-part : goal.invariant-loop-part
invariant-loop-part g l = Joined and all_true True and_is (g.S.Environment.environment l.env) (conditions (map condition_of l.part-items)) (conditions (map condition_of (drop l.part-index l.part-items))) (truth_answer_of l.all)

abbrev pub invariant-loop-part-2 : goal.invariant-loop-part-2
invariant-loop-part-2 g l = Joined or any_true False or_is (g.S.Environment.environment l.env) (conditions (map condition_of l.part-items)) (conditions (map condition_of (drop l.part-index l.part-items))) (truth_answer_of l.any)
