use Rattle.std.proofs.Common.{rules, arith, ◌≡◌, ◌∙◌, sym, ap, subst, map, length, vec_len, ◌∷◌, []}
use Rattle.std.specs.List.{AllByRecursion}
use Rattle.std.proofs.lemmas.List.{length-map}
use Rattle.definitions.specs.Queries.Conjuncts.{condition_tables}
use Rattle.definitions.specs.Estimates.Fractions.{negated_if}
use Rattle.definitions.specs.Estimates.Selectivity.{list_share}
use Rattle.definitions.specs.Estimates.Sides.{side_of}
use Rattle.query_tree.specs.Bound.{condition_of, member_of, value_of}
use Rattle.query_tree.specs.declared.condition.Condition.{the_lemmas}
use Rattle.query_tree.proofs.Views.{of_and, of_between, of_in_list, of_is_null, of_or}
use Rattle.predicates.specs.Naming.{NamesFew}
use Rattle.predicates.proofs.Few.{part_few, parts_few}
use Rattle.predicates.proofs.Naming.{still_few}
use Rattle.predicates.proofs.Saying.{each_few}
use Rattle.estimate.proofs.conditions.+part_selectivity.Goals as goal

pub range_term-requires-clause-low : goal.range_term-requires-clause-low
range_term-requires-clause-low t c =
    let e = c.in-Between in
    let is = ap condition_tables (ap condition_of e.is ∙ of_between e.negated e.value e.low e.high) in
    (each_few (value_of e.value ∷ value_of e.low ∷ value_of e.high ∷ []) (still_few _ _ is c.requires.few)).1.0

pub range_term-requires-clause-high : goal.range_term-requires-clause-high
range_term-requires-clause-high t c =
    let e = c.in-Between in
    let is = ap condition_tables (ap condition_of e.is ∙ of_between e.negated e.value e.low e.high) in
    (each_few (value_of e.value ∷ value_of e.low ∷ value_of e.high ∷ []) (still_few _ _ is c.requires.few)).1.1.0

pub part_selectivity-requires-in-all : goal.part_selectivity-requires-in-all
part_selectivity-requires-in-all t c =
    let parts = c.in-And.parts in
    let is = ap condition_tables (ap condition_of c.in-And.is ∙ of_and parts) in
    let all : AllByRecursion NamesFew (map condition_of c.deref-part-items.result.now) =
    subst (λ xs. AllByRecursion NamesFew (map condition_of xs)) (sym c.deref-part-items.ensures.value) (parts_few (map condition_of parts.items) (still_few _ _ is c.requires.few)) in
    let few : NamesFew (condition_of c.part-item.result) = part_few condition_of c.deref-part-items.result.now c.all.part-index c.part-item.result all c.all-test.true c.part-item.is in
    search (rules, the_lemmas, few)

pub part_selectivity-requires-in-any : goal.part_selectivity-requires-in-any
part_selectivity-requires-in-any t c =
    let parts = c.in-Or.parts in
    let is = ap condition_tables (ap condition_of c.in-Or.is ∙ of_or parts) in
    let all : AllByRecursion NamesFew (map condition_of c.deref-part-items-in-Or.result.now) =
    subst (λ xs. AllByRecursion NamesFew (map condition_of xs)) (sym c.deref-part-items-in-Or.ensures.value) (parts_few (map condition_of parts.items) (still_few _ _ is c.requires.few)) in
    let few : NamesFew (condition_of c.part-item-in-any.result) = part_few condition_of c.deref-part-items-in-Or.result.now c.any.part-index c.part-item-in-any.result all c.any-test.true c.part-item-in-any.is in
    search (rules, the_lemmas, few)

pub returns-in-IsNull-clause-exact : goal.returns-in-IsNull-clause-exact
returns-in-IsNull-clause-exact t c = λ db block are.
    let b = c.in-IsNull in
    let tree = ap condition_of b.is ∙ of_is_null b.negated b.value in
    let share = c.null_share.ensures.exact db block (value_of b.value) c.column_of.ensures in
    rw tree (c.negated_if.ensures.exact ∙ ap (negated_if b.negated) share)

pub returns-in-InList-clause-exact : goal.returns-in-InList-clause-exact
returns-in-InList-clause-exact t c = λ db block are.
    let b = c.in-InList in
    let tree = ap condition_of b.is ∙ of_in_list b.negated b.value b.members in
    let kept : vec_len b.members ≡ length b.members.items = omega (arith, b.members.ok.0) in
    let count = c.len.ensures ∙ kept ∙ sym (length-map b.members.items member_of) in
    let share = c.list_share.ensures.exact db block are (value_of b.value) c.column_of-in-InList.ensures ∙ ap (list_share db block (side_of (value_of b.value))) count in
    rw tree (c.negated_if-in-InList.ensures.exact ∙ ap (negated_if b.negated) share)
