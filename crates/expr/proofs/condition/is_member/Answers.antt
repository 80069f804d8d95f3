use Rattle.std.proofs.Common.{◌+◌, map, drop, ◌∷◌}
use Rattle.definitions.specs.Statement.{Equals}
use Rattle.definitions.specs.Truth.{compared}
use Rattle.definitions.specs.Queries.Evaluation.{member, on_two}
use Rattle.definitions.specs.Queries.Laws.{FitsTypes}
use Rattle.query_tree.specs.Bound.{member_of}
use Rattle.expr.specs.Answers.{IsTyped, truth_answer_of}
use Rattle.expr.proofs.Members.{Sought, seek, sought_next, member_at, member_next}
use Rattle.expr.proofs.condition.is_member.Goals as goal

pub loop-member-init : goal.loop-member-init
loop-member-init g c m h = seek (g.S.Environment.environment c.args.env.now) m (map member_of c.args.members.now) (truth_answer_of c.nowhere-any.result) (c.nowhere-any.ensures m h)

pub member_value-requires-clause-fits : goal.member_value-requires-clause-fits
member_value-requires-clause-fits g c = member_at member_of (FitsTypes (g.S.Environment.environment c.args.env.now)) c.args.members.now c.loop-member.member-index c.member-item.result c.loop-member-test.true c.member-item.is c.requires.fits

pub member_value-requires-clause-typed : goal.member_value-requires-clause-typed
member_value-requires-clause-typed g c = member_at member_of IsTyped c.args.members.now c.loop-member.member-index c.member-item.result c.loop-member-test.true c.member-item.is c.requires.typed

pub loop-member-preserved : goal.loop-member-preserved
loop-member-preserved g c m h =
    let env = g.S.Environment.environment c.args.env.now in
    let x = c.member-item.result in
    let rest = map member_of (drop (c.loop-member.member-index + 1) c.args.members.now) in
    let all = map member_of c.args.members.now in
    let s : Sought env m all (member_of x ∷ rest) (truth_answer_of c.loop-member.any) = rw (member_next member_of c.args.members.now c.loop-member.member-index x c.loop-member-test.true c.member-item.is) at (c.loop-member.invariant m h) in
    sought_next env m all rest (member_of x) (truth_answer_of c.loop-member.any) (truth_answer_of c.either-any.result) s
    (c.either-any.ensures s.found (on_two (compared Equals) m (member env (member_of x))) s.tells (c.comparison.ensures m (member env (member_of x)) h c.member_value.ensures))
