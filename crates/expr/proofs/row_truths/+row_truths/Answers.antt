use Rattle.std.proofs.Common.{rules, ◌≡◌, ◌∙◌, ap, map, drop, ◌∷◌, true}
use Rattle.std.proofs.lemmas.List.{drop_all}
use Rattle.definitions.specs.Truth.{unless}
use Rattle.definitions.specs.Queries.BoundBlock as spec
use Rattle.definitions.specs.Queries.Evaluation as meaning
use Rattle.query_tree.specs.Bound.{condition_of, conditions}
use Rattle.query_tree.proofs.Views.{of_and, of_not, of_or}
use Rattle.expr.proofs.RowTruths.{begin, end, next, of_and_parts, of_list, of_or_parts, part_on, some_rows, under_two}
use Rattle.expr.proofs.row_truths.+row_truths.Goals as goal

-- ---- parts

pub joined_rows-loop-part-init : goal.joined_rows-loop-part-init
joined_rows-loop-part-init g t c =
    let f = part_on (g.S.ManyRows.environment c.args.rows.now) c.args.negated in
    let whole : c.args.parts.now ≡ c.in_ok-part.part.now ∷ c.in_ok-part.others.now = search rules in
    rw whole (begin c.args.all f c.args.first c.args.count c.in_ok-part.part.now c.in_ok-part.others.now c.in_ok-word.word c.in_ok-word.ensures)

pub joined_rows-loop-part-preserved : goal.joined_rows-loop-part-preserved
joined_rows-loop-part-preserved g t c =
    let f = part_on (g.S.ManyRows.environment c.args.rows.now) c.args.negated in
    rw c.joined_words-word.ensures (next c.args.all f c.args.first c.args.count (of_list c.args.all f c.args.parts.now) c.in_ok-part.others.now c.loop-part.part-index c.part-item.result c.loop-part.word c.in_ok-met.met c.loop-part-test.true c.part-item.is c.loop-part.invariant c.in_ok-met.ensures)

pub joined_rows-returns : goal.joined_rows-returns
joined_rows-returns g t c =
    let f = part_on (g.S.ManyRows.environment c.args.rows.now) c.args.negated in
    end c.args.all f c.args.first c.args.count (of_list c.args.all f c.args.parts.now) (drop c.loop-part.part-index c.in_ok-part.others.now) c.loop-part.word (drop_all c.loop-part.part-index c.in_ok-part.others.now c.loop-part-test.false) c.loop-part.invariant

-- ---- conditions

pub told_rows-returns-in-Not : goal.told_rows-returns-in-Not
told_rows-returns-in-Not g t c =
    let b = c.in-Not in
    let env = g.S.ManyRows.environment c.args.rows.now in
    let both = c.both_nots-both.result in
    let operand = condition_of c.deref.result.now in
    let tree = ap condition_of b.is ∙ of_not b.operand in
    rw (tree, ← c.deref.ensures) (some_rows c.told_rows.result (λ row. meaning.on_one (unless both) (meaning.truth (env row) operand)) (λ row. meaning.on_one (unless c.args.negated) (meaning.truth (env row) (spec.Not operand))) c.args.first c.args.count
    (λ row. under_two both c.args.negated true (meaning.truth (env row) operand) c.both_nots-both.ensures) c.told_rows.ensures)

pub told_rows-returns-in-And : goal.told_rows-returns-in-And
told_rows-returns-in-And g t c =
    let parts = c.in-And.parts in
    let env = g.S.ManyRows.environment c.args.rows.now in
    let tree = ap condition_of c.in-And.is ∙ of_and parts in
    rw (tree, ← c.deref-in-And.ensures.value) (some_rows c.joined_rows.result (of_list _ (part_on env c.args.negated) c.deref-in-And.result.now) (λ row. meaning.on_one (unless c.args.negated) (meaning.truth (env row) (spec.And (conditions (map condition_of c.deref-in-And.result.now))))) c.args.first c.args.count
    (λ row. of_and_parts (env row) c.args.negated c.deref-in-And.result.now) c.joined_rows.ensures)

pub told_rows-returns-in-Or : goal.told_rows-returns-in-Or
told_rows-returns-in-Or g t c =
    let parts = c.in-Or.parts in
    let env = g.S.ManyRows.environment c.args.rows.now in
    let tree = ap condition_of c.in-Or.is ∙ of_or parts in
    rw (tree, ← c.deref-in-Or.ensures.value) (some_rows c.joined_rows-in-Or.result (of_list c.args.negated (part_on env c.args.negated) c.deref-in-Or.result.now) (λ row. meaning.on_one (unless c.args.negated) (meaning.truth (env row) (spec.Or (conditions (map condition_of c.deref-in-Or.result.now))))) c.args.first c.args.count
    (λ row. of_or_parts (env row) c.args.negated c.deref-in-Or.result.now) c.joined_rows-in-Or.ensures)
