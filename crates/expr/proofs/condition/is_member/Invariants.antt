use Rattle.std.proofs.Common.{map, drop}
use Rattle.definitions.specs.Value.{Value}
use Rattle.definitions.specs.Arithmetic.{Meaning}
use Rattle.definitions.specs.Queries.Telling.{MayAnswer}
use Rattle.query_tree.specs.Bound.{member_of}
use Rattle.expr.specs.Answers.{answer_of, truth_answer_of}
use Rattle.expr.proofs.Members.{Sought}
use Rattle.expr.proofs.condition.is_member.Given as goal

abbrev pub invariant-loop-member : goal.invariant-loop-member
invariant-loop-member g l = (m : Meaning Value) → MayAnswer m (answer_of l.operand) → Sought (g.S.Environment.environment l.env) m (map member_of l.members) (map member_of (drop l.member-index l.members)) (truth_answer_of l.any)
