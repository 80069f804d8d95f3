use Rattle.std.proofs.Common.{rules, ◌≡◌, ◌∙◌, sym, ap, ap₂, subst, ◌≤◌, [], length, map}
use Rattle.std.specs.Prelude.{IfSome}
use Rattle.std.specs.Option.{option_map}
use Rattle.definitions.specs.Limits.{most_keys}
use Rattle.definitions.specs.Binding.Formed.{AreFormed}
use Rattle.definitions.specs.Binding.Faults.{list_of as spec_list_of}
use Rattle.definitions.proofs.BindingTheory.AcceptedQueries.{accepted_queries_are_formed}
use Rattle.query_tree.specs.Bound.{block_of, item_of, key_of, value_type_of}
use Rattle.parse_tree.specs.Trees.{block_of as query_of, key_of as tree_key_of, list_of, select_of}
use Rattle.parse_tree.proofs.Views.{of_block}
use Rattle.query_rules.specs.Judging.{BindsBlock, RefusesBlock}
use Rattle.query_rules.specs.Keys.{names_by, bound_keys, SomeKeyIsUnknown, RefusesOrder}
use Rattle.query_rules.specs.Meaning.{bind_refusal}
use Rattle.query_rules.proofs.Refused.{if_some}
use Rattle.binder.proofs.Answering.{is_passed}
use Rattle.binder.proofs.Queries.{answer_err, names_in, few_items, refused_block, refused_keys, accepted, first_of, with_keys, as_many_keys}
use Rattle.binder.proofs.query.bind.Goals as goal

-- src/query.rt:33:5
pub returns-in_err-block-clause-refused : goal.returns-in_err-block-clause-refused
returns-in_err-block-clause-refused c =
    let f = c.in_err-block.field-0.0 in
    let inner : IfSome (bind_refusal f) (RefusesBlock c.args.database.now [] [] (query_of c.args.query.now.block)) = rw (c.outside.ensures, c.new-blocks.ensures.items) at c.in_err-block.ensures in
    answer_err _ f _ (is_passed _ c.from_residual.ensures.1) (if_some (bind_refusal f) _ _ (refused_block c.args.database.now (select_of c.args.query.now)) inner)

-- src/query.rt:34:23
pub returns-in_err-blocks-clause-refused : goal.returns-in_err-blocks-clause-refused
returns-in_err-blocks-clause-refused c =
    let h : BindsBlock c.args.database.now [] [] (map block_of c.block-2.new.blocks.items) (query_of c.args.query.now.block) (option_map value_type_of c.in_ok-block.field-0) = rw (c.outside.ensures, c.new-blocks.ensures.items) at c.in_ok-block.ensures in
    let same : (names_by (list_of c.args.query.now.block.list) (map item_of c.deref.result.now)) ≡ names_in c.args.database.now (query_of c.args.query.now.block) = ap₂ names_by (sym (ap spec_list_of (of_block c.args.query.now.block))) (ap (map item_of) c.deref.ensures.value) ∙ first_of c.args.database.now (query_of c.args.query.now.block) c.block-2.new.blocks.items c.index.result.now c.index.ensures h.are in
    let f = c.in_err-blocks.field-0.0 in
    let inner : IfSome (bind_refusal f) (RefusesOrder (names_by (list_of c.args.query.now.block.list) (map item_of c.deref.result.now)) (map tree_key_of c.args.query.now.order.items)) = rw c.deref-2.ensures.value at c.in_err-blocks.ensures.refused in
    answer_err _ f _ (is_passed _ c.from_residual-in_err-blocks.ensures.1) (if_some (bind_refusal f) _ _ (λ r e. refused_keys c.args.database.now (select_of c.args.query.now) (names_by (list_of c.args.query.now.block.list) (map item_of c.deref.result.now)) r same h.there (few_items c.args.database.now (query_of c.args.query.now.block) h.accepted) e) inner)

-- src/query.rt:22:1
pub returns-clause-bound : goal.returns-clause-bound
returns-clause-bound c =
    let h : BindsBlock c.args.database.now [] [] (map block_of c.block-2.new.blocks.items) (query_of c.args.query.now.block) (option_map value_type_of c.in_ok-block.field-0) = rw (c.outside.ensures, c.new-blocks.ensures.items) at c.in_ok-block.ensures in
    let same : (names_by (list_of c.args.query.now.block.list) (map item_of c.deref.result.now)) ≡ names_in c.args.database.now (query_of c.args.query.now.block) = ap₂ names_by (sym (ap spec_list_of (of_block c.args.query.now.block))) (ap (map item_of) c.deref.ensures.value) ∙ first_of c.args.database.now (query_of c.args.query.now.block) c.block-2.new.blocks.items c.index.result.now c.index.ensures h.are in
    let keys : map key_of c.in_ok-blocks.field-0.items ≡ bound_keys (names_in c.args.database.now (query_of c.args.query.now.block)) (map tree_key_of c.args.query.now.order.items) = rw (same, c.deref-2.ensures.value) at c.in_ok-blocks.ensures.ok in
    let known : SomeKeyIsUnknown (names_by (list_of c.args.query.now.block.list) (map item_of c.deref.result.now)) (map tree_key_of c.args.query.now.order.items) → ⊥ = rw c.deref-2.ensures.value at c.in_ok-blocks.ensures.known in
    let few : length (map tree_key_of c.args.query.now.order.items) ≤ most_keys = rw (as_many_keys c.args.query.now.order.items, ← c.deref-2.ensures.value) c.in_ok-blocks.ensures.few in
    (accepted c.args.database.now (select_of c.args.query.now) (map block_of c.block-2.new.blocks.items) _ (names_by (list_of c.args.query.now.block.list) (map item_of c.deref.result.now)) h same known few, with_keys c.args.database.now (query_of c.args.query.now.block) (map tree_key_of c.args.query.now.order.items) c.block-2.new.blocks.items c.index_mut.result.now c.in_ok-blocks.field-0 c.index_mut.ensures.value h.are keys)

-- src/query.rt:22:1
pub returns-clause-formed : goal.returns-clause-formed
returns-clause-formed c = λ written. subst (λ bs. AreFormed c.args.database.now bs [] 0) (sym (returns-clause-bound c).1) (accepted_queries_are_formed c.args.database.now (select_of c.args.query.now) c.requires.valid written (returns-clause-bound c).0)
