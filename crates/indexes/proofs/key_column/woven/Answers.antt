use Rattle.std.proofs.Common.{◌<◌, ◌≤◌, ◌-◌, ◌∙◌, ◌++◌, ap, sym, map, length, get_or, rules, arith}
use Rattle.std.proofs.lemmas.List.{length-map}
use Rattle.definitions.specs.Scanning.{part_of}
use Rattle.columns.specs.Columns.{cells_of}
use Rattle.columns.specs.Starts.{value_in}
use Rattle.indexes.proofs.Weaving.{all_taken_so, held_added, one_more, place_within, row_value}
use Rattle.indexes.proofs.key_column.woven.Goals as goal

pub extend_from-requires-clause-within : goal.extend_from-requires-clause-within
extend_from-requires-clause-within c =
    let h : c.loop-place.place < length c.args.keyed.now.places.items = omega (arith, c.requires.carried.each, c.loop-place-test.true, c.deref-row-items.ensures.len) in
    place_within (cells_of c.args.old.now) (map (value_in (cells_of c.args.column.now)) c.args.keyed.now.further.items) c.args.keyed.now.places.items (cells_of c.args.column.now) (cells_of c.loop-place.taken) c.loop-place.from _ c.loop-place.place h (search rules) c.loop-place.invariant

pub loop-place-preserved : goal.loop-place-preserved
loop-place-preserved c =
    let h : c.loop-place.place < length c.args.keyed.now.places.items = omega (arith, c.requires.carried.each, c.loop-place-test.true, c.deref-row-items.ensures.len) in
    let k : c.loop-place.place < length c.args.keyed.now.further.items = omega (arith, c.loop-place-test.true, c.deref-row-items.ensures.len) in
    let l : c.loop-place.place < length (map (value_in (cells_of c.args.column.now)) c.args.keyed.now.further.items) = omega (arith, k, length-map c.args.keyed.now.further.items (value_in (cells_of c.args.column.now))) in
    one_more (cells_of c.args.old.now) (map (value_in (cells_of c.args.column.now)) c.args.keyed.now.further.items) c.args.keyed.now.places.items (cells_of c.args.column.now) (cells_of c.loop-place.taken) c.loop-place.from _ c.loop-place.place h (search rules) c.loop-place.invariant
    _ _ _ l (row_value (cells_of c.args.column.now) c.args.keyed.now.further.items c.loop-place.place _ k (ap (λ rows. get_or rows c.loop-place.place 0) c.deref-row-items.ensures.value)) (sym c.requires.alike) c.requires.held c.in_ok-push_from.ensures.held c.in_ok-extend_from.ensures.ok c.in_ok-push_from.ensures.ok

pub returns-clause-held : goal.returns-clause-held
returns-clause-held c =
    held_added (cells_of c.args.old.now) (cells_of c.loop-place.taken) _ c.loop-place.from _ (c.loop-place.invariant.type ∙ sym c.requires.alike) c.requires.held c.loop-place.invariant.held c.in_ok-extend_from-2.ensures.ok

pub returns-clause-values : goal.returns-clause-values
returns-clause-values c =
    let fs = map (value_in (cells_of c.args.column.now)) c.args.keyed.now.further.items in
    let all : length fs ≤ c.loop-place.place = omega (arith, c.loop-place-test.false, c.deref-row-items.ensures.len, length-map c.args.keyed.now.further.items (value_in (cells_of c.args.column.now))) in
    all_taken_so (cells_of c.args.old.now) fs c.args.keyed.now.places.items (cells_of c.args.column.now) (cells_of c.loop-place.taken) _ c.loop-place.from c.loop-place.place all c.loop-place.invariant
    (c.in_ok-extend_from-2.ensures.ok ∙ ap (λ n. record (cells_of c.loop-place.taken) { values = (cells_of c.loop-place.taken).values ++ part_of c.loop-place.from (n - c.loop-place.from) (cells_of c.args.old.now).values }) c.len.ensures)
    ∙ ap (λ vs. record (cells_of c.args.column.now) { values = vs }) (sym c.requires.carried.values)
