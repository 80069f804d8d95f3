use Rattle.std.proofs.Common.{rules, ◌≡◌, ◌∷◌, drop, map}
use Rattle.std.proofs.lemmas.List.{drop_all}
use Rattle.definitions.specs.Queries.BoundBlock as spec
use Rattle.definitions.specs.Queries.Evaluation as meaning
use Rattle.sqlvalue.specs.Meaning.{op_of}
use Rattle.query_tree.specs.Bound.{member_of, value_of as tree_of}
use Rattle.expr.specs.RowTruths.{AreTrueRows}
use Rattle.expr.proofs.RowTruths.{begin, end, in_list, next, of_list, same_rows, with_member}
use Rattle.expr.proofs.row_truths.member_rows.Goals as goal

pub loop-member-init : goal.loop-member-init
loop-member-init g c =
    let f = with_member (g.S.ManyRows.environment c.args.rows.now) (op_of c.operator_behind-op.result) (tree_of c.args.value.now) in
    let whole : c.args.members.now ≡ c.in_ok-member.member.now ∷ c.in_ok-member.others.now = search rules in
    rw whole (begin c.args.negated f c.args.first c.args.count c.in_ok-member.member.now c.in_ok-member.others.now c.in_ok-word.word c.in_ok-word.ensures)

pub loop-member-preserved : goal.loop-member-preserved
loop-member-preserved g c =
    let f = with_member (g.S.ManyRows.environment c.args.rows.now) (op_of c.operator_behind-op.result) (tree_of c.args.value.now) in
    rw c.joined_words-word.ensures (next c.args.negated f c.args.first c.args.count (of_list c.args.negated f c.args.members.now) c.in_ok-member.others.now c.loop-member.member-index c.member-item.result c.loop-member.word c.in_ok-met.met c.loop-member-test.true c.member-item.is c.loop-member.invariant c.in_ok-met.ensures)

pub returns : goal.returns
returns g c =
    let env = g.S.ManyRows.environment c.args.rows.now in
    let op = op_of c.operator_behind-op.result in
    let value = tree_of c.args.value.now in
    let f = with_member env op value in
    let x = c.in_ok-member.member.now in
    let xs = c.in_ok-member.others.now in
    let whole : c.args.members.now ≡ x ∷ xs = search rules in
    let all = of_list c.args.negated f c.args.members.now in
    let told : AreTrueRows all c.args.first c.args.count c.loop-member.word =
    end c.args.negated f c.args.first c.args.count all (drop c.loop-member.member-index xs) c.loop-member.word (drop_all c.loop-member.member-index xs c.loop-member-test.false) c.loop-member.invariant in
    same_rows all (λ row. meaning.truth (env row) (spec.InList c.args.negated value (map member_of c.args.members.now))) c.args.first c.args.count c.loop-member.word
    (λ row. rw whole (in_list (env row) c.args.negated op (meaning.value (env row) value) x xs c.operator_behind-op.ensures)) told
