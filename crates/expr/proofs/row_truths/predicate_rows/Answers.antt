use Rattle.std.proofs.Common.{◌∙◌, refl, ap, map}
use Rattle.definitions.specs.Truth.{compared, known, unless}
use Rattle.definitions.specs.Pattern.{like}
use Rattle.definitions.specs.Value.{is_null}
use Rattle.definitions.specs.Queries.BoundBlock as spec
use Rattle.definitions.specs.Queries.Evaluation as meaning
use Rattle.sqlvalue.specs.Meaning.{op_of}
use Rattle.query_tree.specs.Bound.{condition_of, member_of, value_of as tree_of}
use Rattle.query_tree.proofs.Views.{of_between, of_compare, of_in_list, of_is_null, of_like}
use Rattle.expr.specs.RowTruths.{truth_by}
use Rattle.expr.specs.declared.row_truths.ValueTest.TheVariants as test
use Rattle.expr.proofs.RowTruths.{like_is, some_rows, two_nots, under_not, under_two}
use Rattle.expr.proofs.row_truths.predicate_rows.Goals as goal

pub returns-in-Compare : goal.returns-in-Compare
returns-in-Compare g c =
    let b = c.in-Compare in
    let env = g.S.ManyRows.environment c.args.rows.now in
    let left = tree_of b.left in
    let right = tree_of b.right in
    let tree = ap condition_of b.is ∙ of_compare b.op b.left b.right in
    rw tree (some_rows c.comparison_rows.result (λ row. meaning.truth (env row) (spec.Compare (op_of c.operator_behind-op.result) left right)) (λ row. meaning.on_one (unless c.args.negated) (meaning.truth (env row) (spec.Compare (op_of b.op) left right))) c.args.first c.args.count
    (λ row. under_not c.args.negated (compared (op_of c.operator_behind-op.result)) (compared (op_of b.op)) (meaning.value (env row) left) (meaning.value (env row) right) c.operator_behind-op.ensures) c.comparison_rows.ensures)

pub returns-in-Between : goal.returns-in-Between
returns-in-Between g c =
    let b = c.in-Between in
    let env = g.S.ManyRows.environment c.args.rows.now in
    let value = tree_of b.value in
    let low = tree_of b.low in
    let high = tree_of b.high in
    let tree = ap condition_of b.is ∙ of_between b.not b.value b.low b.high in
    rw tree (some_rows c.between_rows.result (λ row. meaning.truth (env row) (spec.Between c.both_nots-both.result value low high)) (λ row. meaning.on_one (unless c.args.negated) (meaning.truth (env row) (spec.Between b.not value low high))) c.args.first c.args.count
    (λ row. under_two c.both_nots-both.result c.args.negated b.not _ c.both_nots-both.ensures) c.between_rows.ensures)

pub returns-in-IsNull : goal.returns-in-IsNull
returns-in-IsNull g c =
    let b = c.in-IsNull in
    let env = g.S.ManyRows.environment c.args.rows.now in
    let value = tree_of b.value in
    let both = c.both_nots-both-in-IsNull.result in
    let tree = ap condition_of b.is ∙ of_is_null b.not b.value in
    rw tree (some_rows c.tested_rows.result (λ row. meaning.on_one (λ v. unless both (truth_by test.IsNull v)) (meaning.value (env row) value)) (λ row. meaning.on_one (unless c.args.negated) (meaning.truth (env row) (spec.IsNull b.not value))) c.args.first c.args.count
    (λ row. two_nots both c.args.negated b.not (truth_by test.IsNull) (λ v. known (is_null v)) (meaning.value (env row) value) (λ v. refl) c.both_nots-both-in-IsNull.ensures) c.tested_rows.ensures)

pub returns-in-Like : goal.returns-in-Like
returns-in-Like g c =
    let b = c.in-Like in
    let env = g.S.ManyRows.environment c.args.rows.now in
    let value = tree_of b.value in
    let both = c.both_nots-both-in-Like.result in
    let pattern = test.Like c.new.result in
    let tree = ap condition_of b.is ∙ of_like b.not b.value b.pattern in
    rw (tree, ← c.as_str.ensures.value) (some_rows c.tested_rows-in-Like.result (λ row. meaning.on_one (λ v. unless both (truth_by pattern v)) (meaning.value (env row) value)) (λ row. meaning.on_one (unless c.args.negated) (meaning.truth (env row) (spec.Like b.not value c.as_str.result.now))) c.args.first c.args.count
    (λ row. two_nots both c.args.negated b.not (truth_by pattern) (like c.as_str.result.now) (meaning.value (env row) value) (like_is c.new.result c.as_str.result.now c.new.ensures) c.both_nots-both-in-Like.ensures) c.tested_rows-in-Like.ensures)

pub returns-in-InList : goal.returns-in-InList
returns-in-InList g c =
    let b = c.in-InList in
    let env = g.S.ManyRows.environment c.args.rows.now in
    let value = tree_of b.value in
    let both = c.both_nots-both-in-InList.result in
    let members = map member_of c.deref.result.now in
    let tree = ap condition_of b.is ∙ of_in_list b.not b.value b.members in
    rw (tree, ← c.deref.ensures.value) (some_rows c.member_rows.result (λ row. meaning.truth (env row) (spec.InList both value members)) (λ row. meaning.on_one (unless c.args.negated) (meaning.truth (env row) (spec.InList b.not value members))) c.args.first c.args.count
    (λ row. under_two both c.args.negated b.not _ c.both_nots-both-in-InList.ensures) c.member_rows.ensures)
