use Rattle.std.proofs.Common.{rules, ◌≡◌, ◌∙◌, refl, ap, subst, ◌+◌, map, drop, Ok}
use Rattle.std.specs.Prelude.{string_bytes}
use Rattle.std.specs.List.{AllByRecursion}
use Rattle.std.proofs.lemmas.List.{drop_all}
use Rattle.definitions.specs.Pattern.{like}
use Rattle.definitions.specs.Statement.{Equals, GreaterOrEquals, LessOrEquals}
use Rattle.definitions.specs.Truth.{True, False, and, or, all_true, any_true, compared, compared_with_any, unless}
use Rattle.definitions.specs.Queries.BoundBlock as spec
use Rattle.definitions.specs.Queries.Conjuncts.{values_of}
use Rattle.definitions.specs.Queries.Evaluation.{value, truth, member, in_order, column_values, on_one, on_two}
use Rattle.definitions.specs.Queries.Laws.{FitsTypes}
use Rattle.definitions.specs.Queries.Telling.{MayAnswer}
use Rattle.query_tree.specs.Bound.{condition_of, conditions, member_of, value_of as tree_of}
use Rattle.query_tree.specs.declared.condition.Condition.{the_lemmas}
use Rattle.query_tree.proofs.Views.{of_compare, of_quantified, of_is_null, of_between, of_like, of_in_list, of_in_query, of_and, of_or}
use Rattle.expr.specs.Answers.{IsTyped, truth_answer_of}
use Rattle.expr.proofs.Telling.{fused}
use Rattle.expr.proofs.Parts.{Joined, AreFit, and_is, or_is, join, joined_next, joined_all, fit_part, part_next}
use Rattle.expr.proofs.condition.+truth.Goals as goal

-- ---- values

pub returns-in-Some : goal.returns-in-Some
returns-in-Some g t c =
    let tree = ap condition_of c.in-Compare.is ∙ of_compare c.in-Compare.op c.in-Compare.left c.in-Compare.right in
    rw (tree, c.in-Some.ensures) refl

pub returns-in-None : goal.returns-in-None
returns-in-None g t c =
    let env = g.S.Environment.environment c.args.env.now in
    let tree = ap condition_of c.in-Compare.is ∙ of_compare c.in-Compare.op c.in-Compare.left c.in-Compare.right in
    rw tree (c.comparison.ensures (value env (tree_of c.in-Compare.left)) (value env (tree_of c.in-Compare.right)) c.value.ensures c.value-in-None.ensures)

pub returns-in-Quantified : goal.returns-in-Quantified
returns-in-Quantified g t c =
    let b = c.in-Quantified in
    let tree = ap condition_of b.is ∙ of_quantified b.op b.quantifier b.operand b.block in
    rw tree (c.compared_with_rows.ensures (value (g.S.Environment.environment c.args.env.now) (tree_of b.operand)) c.value-in-Quantified.ensures)

pub returns-in-IsNull : goal.returns-in-IsNull
returns-in-IsNull g t c =
    let tree = ap condition_of c.in-IsNull.is ∙ of_is_null c.in-IsNull.negated c.in-IsNull.operand in
    rw tree (c.is_null.ensures (value (g.S.Environment.environment c.args.env.now) (tree_of c.in-IsNull.operand)) c.value-in-IsNull.ensures)

pub returns-in-Between : goal.returns-in-Between
returns-in-Between g t c =
    let env = g.S.Environment.environment c.args.env.now in
    let b = c.in-Between in
    let tree = ap condition_of b.is ∙ of_between b.negated b.operand b.low b.high in
    let m = value env (tree_of b.operand) in
    let l = value env (tree_of b.low) in
    let h = value env (tree_of b.high) in
    rw tree (c.unless.ensures (on_two and (on_two (compared GreaterOrEquals) m l) (on_two (compared LessOrEquals) m h)) (c.between.ensures m l h c.value-in-Between.ensures c.value-in-Between-2.ensures c.value-in-Between-3.ensures))

pub returns-in-Like : goal.returns-in-Like
returns-in-Like g t c =
    let env = g.S.Environment.environment c.args.env.now in
    let b = c.in-Like in
    let tree = ap condition_of b.is ∙ of_like b.negated b.operand b.pattern in
    let m = value env (tree_of b.operand) in
    let inner : MayAnswer (on_one (like (string_bytes b.pattern)) m) (truth_answer_of c.fits.result) = rw c.as_str.ensures.value at (c.fits.ensures m c.value-in-Like.ensures) in
    let one = c.unless-in-Like.ensures (on_one (like (string_bytes b.pattern)) m) inner in
    rw tree (subst (λ n. MayAnswer n (truth_answer_of c.unless-in-Like.result)) (fused (unless b.negated) (like (string_bytes b.pattern)) m) one)

pub returns-in-InList : goal.returns-in-InList
returns-in-InList g t c =
    let env = g.S.Environment.environment c.args.env.now in
    let b = c.in-InList in
    let tree = ap condition_of b.is ∙ of_in_list b.negated b.operand b.members in
    let m = value env (tree_of b.operand) in
    let inner : MayAnswer (on_two (compared_with_any Equals) m (in_order (map (member env) (map member_of b.members.items)))) (truth_answer_of c.is_member.result) = rw c.deref.ensures.value at (c.is_member.ensures m c.value-in-InList.ensures) in
    rw tree (c.unless-in-InList.ensures (on_two (compared_with_any Equals) m (in_order (map (member env) (map member_of b.members.items)))) inner)

pub returns-in-InQuery : goal.returns-in-InQuery
returns-in-InQuery g t c =
    let env = g.S.Environment.environment c.args.env.now in
    let b = c.in-InQuery in
    let tree = ap condition_of b.is ∙ of_in_query b.negated b.operand b.block in
    let m = value env (tree_of b.operand) in
    let n = on_one column_values (env.inner b.block) in
    rw tree (c.unless-in-InQuery.ensures (on_two (compared_with_any Equals) m n) (c.compared_with_rows-in-InQuery.ensures m c.value-in-InQuery.ensures))

-- ---- AND

pub loop-part-init : goal.loop-part-init
loop-part-init g t c =
    let env = g.S.Environment.environment c.args.env.now in
    let tree : condition_of c.args.condition.now ≡ spec.And (conditions (map condition_of c.in-And.parts.items)) = ap condition_of c.in-And.is ∙ of_and c.in-And.parts in
    let fits : AllByRecursion (FitsTypes env) (values_of (spec.And (conditions (map condition_of c.in-And.parts.items)))) = rw tree at c.requires.fits in
    let typed : AllByRecursion IsTyped (values_of (spec.And (conditions (map condition_of c.in-And.parts.items)))) = rw tree at c.requires.typed in
    let fit : AreFit env (conditions (map condition_of c.deref-part-items.result.now)) = rw c.deref-part-items.ensures.value (record { fits = fits; typed = typed }) in
    join and all_true True and_is env (conditions (map condition_of c.deref-part-items.result.now)) (Ok True) refl fit

pub truth-requires-in-loop-part : goal.truth-requires-in-loop-part
truth-requires-in-loop-part g t c κs within =
    let env = g.S.Environment.environment c.args.env.now in
    let x = c.part-item.result in
    let rest = conditions (map condition_of (drop (c.loop-part.part-index + 1) c.deref-part-items.result.now)) in
    let all : AreFit env (spec.Part (condition_of x) rest) = rw (part_next c.deref-part-items.result.now c.loop-part.part-index x c.loop-part-test.true c.part-item.is) at c.loop-part.invariant.fit in
    let f = fit_part env (condition_of x) rest all in
    let fits : AllByRecursion (FitsTypes env) (values_of (condition_of x)) = f.fits in
    let typed : AllByRecursion IsTyped (values_of (condition_of x)) = f.typed in
    search (rules, the_lemmas, fits, typed)

pub loop-part-preserved : goal.loop-part-preserved
loop-part-preserved g t c =
    let env = g.S.Environment.environment c.args.env.now in
    let x = c.part-item.result in
    let all = conditions (map condition_of c.deref-part-items.result.now) in
    let rest = conditions (map condition_of (drop (c.loop-part.part-index + 1) c.deref-part-items.result.now)) in
    let s : Joined and all_true True and_is env all (spec.Part (condition_of x) rest) (truth_answer_of c.loop-part.all) = rw (part_next c.deref-part-items.result.now c.loop-part.part-index x c.loop-part-test.true c.part-item.is) at c.loop-part.invariant in
    joined_next and all_true True and_is env all rest (condition_of x) (truth_answer_of c.loop-part.all) (truth_answer_of c.both-all.result) s (c.both-all.ensures s.meaning (truth env (condition_of x)) s.tells c.truth-in-loop-part.ensures)

pub returns-after-loop-part : goal.returns-after-loop-part
returns-after-loop-part g t c =
    let env = g.S.Environment.environment c.args.env.now in
    let tree = ap condition_of c.in-And.is ∙ of_and c.in-And.parts in
    let none : conditions (map condition_of (drop c.loop-part.part-index c.deref-part-items.result.now)) ≡ spec.NoPart = ap (λ xs. conditions (map condition_of xs)) (drop_all c.loop-part.part-index c.deref-part-items.result.now c.loop-part-test.false) in
    let s : Joined and all_true True and_is env (conditions (map condition_of c.deref-part-items.result.now)) spec.NoPart (truth_answer_of c.loop-part.all) = rw none at c.loop-part.invariant in
    let told = joined_all and all_true True and_is env (conditions (map condition_of c.deref-part-items.result.now)) (truth_answer_of c.loop-part.all) s in
    rw (tree, ← c.deref-part-items.ensures.value) told

-- ---- OR

pub loop-part-2-init : goal.loop-part-2-init
loop-part-2-init g t c =
    let env = g.S.Environment.environment c.args.env.now in
    let tree : condition_of c.args.condition.now ≡ spec.Or (conditions (map condition_of c.in-Or.parts.items)) = ap condition_of c.in-Or.is ∙ of_or c.in-Or.parts in
    let fits : AllByRecursion (FitsTypes env) (values_of (spec.Or (conditions (map condition_of c.in-Or.parts.items)))) = rw tree at c.requires.fits in
    let typed : AllByRecursion IsTyped (values_of (spec.Or (conditions (map condition_of c.in-Or.parts.items)))) = rw tree at c.requires.typed in
    let fit : AreFit env (conditions (map condition_of c.deref-part-items-in-Or.result.now)) = rw c.deref-part-items-in-Or.ensures.value (record { fits = fits; typed = typed }) in
    join or any_true False or_is env (conditions (map condition_of c.deref-part-items-in-Or.result.now)) (Ok False) refl fit

pub truth-requires-in-loop-part-2 : goal.truth-requires-in-loop-part-2
truth-requires-in-loop-part-2 g t c κs within =
    let env = g.S.Environment.environment c.args.env.now in
    let x = c.part-item-in-loop-part-2.result in
    let rest = conditions (map condition_of (drop (c.loop-part-2.part-index + 1) c.deref-part-items-in-Or.result.now)) in
    let all : AreFit env (spec.Part (condition_of x) rest) = rw (part_next c.deref-part-items-in-Or.result.now c.loop-part-2.part-index x c.loop-part-2-test.true c.part-item-in-loop-part-2.is) at c.loop-part-2.invariant.fit in
    let f = fit_part env (condition_of x) rest all in
    let fits : AllByRecursion (FitsTypes env) (values_of (condition_of x)) = f.fits in
    let typed : AllByRecursion IsTyped (values_of (condition_of x)) = f.typed in
    search (rules, the_lemmas, fits, typed)

pub loop-part-2-preserved : goal.loop-part-2-preserved
loop-part-2-preserved g t c =
    let env = g.S.Environment.environment c.args.env.now in
    let x = c.part-item-in-loop-part-2.result in
    let all = conditions (map condition_of c.deref-part-items-in-Or.result.now) in
    let rest = conditions (map condition_of (drop (c.loop-part-2.part-index + 1) c.deref-part-items-in-Or.result.now)) in
    let s : Joined or any_true False or_is env all (spec.Part (condition_of x) rest) (truth_answer_of c.loop-part-2.any) = rw (part_next c.deref-part-items-in-Or.result.now c.loop-part-2.part-index x c.loop-part-2-test.true c.part-item-in-loop-part-2.is) at c.loop-part-2.invariant in
    joined_next or any_true False or_is env all rest (condition_of x) (truth_answer_of c.loop-part-2.any) (truth_answer_of c.either-any.result) s (c.either-any.ensures s.meaning (truth env (condition_of x)) s.tells c.truth-in-loop-part-2.ensures)

pub returns-after-loop-part-2 : goal.returns-after-loop-part-2
returns-after-loop-part-2 g t c =
    let env = g.S.Environment.environment c.args.env.now in
    let tree = ap condition_of c.in-Or.is ∙ of_or c.in-Or.parts in
    let none : conditions (map condition_of (drop c.loop-part-2.part-index c.deref-part-items-in-Or.result.now)) ≡ spec.NoPart = ap (λ xs. conditions (map condition_of xs)) (drop_all c.loop-part-2.part-index c.deref-part-items-in-Or.result.now c.loop-part-2-test.false) in
    let s : Joined or any_true False or_is env (conditions (map condition_of c.deref-part-items-in-Or.result.now)) spec.NoPart (truth_answer_of c.loop-part-2.any) = rw none at c.loop-part-2.invariant in
    let told = joined_all or any_true False or_is env (conditions (map condition_of c.deref-part-items-in-Or.result.now)) (truth_answer_of c.loop-part-2.any) s in
    rw (tree, ← c.deref-part-items-in-Or.ensures.value) told
