use Rattle.std.proofs.Common.{◌∙◌, sym, ap, List, Bool, ℕ}
use Rattle.std.specs.List.{position_from}
use Rattle.definitions.specs.Table.{is_on}
use Rattle.indexes.specs.Indexes.{StoredIndex}
use Rattle.catalog.proofs.Rows.{of_view, position_found, position_further, position_none, position-map}
use Rattle.catalog.proofs.table.Table.index_place.Goals as goal

abbrev is_on_list : List ℕ → StoredIndex → Bool
is_on_list list i = is_on list i.index

pub returns-then-is_on-clause-place : goal.returns-then-is_on-clause-place
returns-then-is_on-clause-place c =
    position_found (is_on_list c.args.list.now) c.deref-index-items.result.now c.loop-place.place c.index-item.result _ c.loop-place-test.true c.index-item.is (sym c.is_on.ensures ∙ c.if-is_on.true) c.loop-place.invariant
    ∙ ap (position_from (is_on_list c.args.list.now) 0) c.deref-index-items.ensures.value
    ∙ sym (position-map (λ (i : StoredIndex). i.index) (is_on c.args.list.now) 0 c.self.inside.indexes.items) ∙ ap (position_from (is_on c.args.list.now) 0) (sym (of_view _ _ _ c.self.inside.len _ _ c.self.view_is).indexes)

pub loop-place-preserved : goal.loop-place-preserved
loop-place-preserved c =
    position_further (is_on_list c.args.list.now) c.deref-index-items.result.now c.loop-place.place c.index-item.result _ c.loop-place-test.true c.index-item.is (sym c.is_on.ensures ∙ c.if-is_on.false) c.loop-place.invariant

pub returns-clause-place : goal.returns-clause-place
returns-clause-place c =
    position_none (is_on_list c.args.list.now) c.deref-index-items.result.now c.loop-place.place _ c.loop-place-test.false c.loop-place.invariant
    ∙ ap (position_from (is_on_list c.args.list.now) 0) c.deref-index-items.ensures.value
    ∙ sym (position-map (λ (i : StoredIndex). i.index) (is_on c.args.list.now) 0 c.self.inside.indexes.items) ∙ ap (position_from (is_on c.args.list.now) 0) (sym (of_view _ _ _ c.self.inside.len _ _ c.self.view_is).indexes)
