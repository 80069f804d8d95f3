use Rattle.std.proofs.Common.{◌≡◌, ◌∙◌, ◌++◌, ap, sym, length, get_or, refl, rules}
use Rattle.std.proofs.lemmas.List.{take_rest}
use Rattle.indexes.specs.Keys.{columns_of}
use Rattle.indexes.specs.Merging.{woven}
use Rattle.indexes.proofs.MergedRows.{behind_ordered, none_merged, one_merged, same_merged}
use Rattle.indexes.proofs.Weaving.{all_places, all_rows_woven, none_woven, one_woven}
use Rattle.indexes.proofs.merging.merged_rows.Goals as goal

pub loop-row-init : goal.loop-row-init
loop-row-init c = record {
  merged = same_merged (columns_of c.args.keys.now) c.args.old.now c.args.further.now _ c.args.key_count c.in_ok-rows.ensures.items (none_merged (columns_of c.args.keys.now) c.args.old.now c.args.further.now c.args.key_count c.requires.old c.requires.counted);
  woven = none_woven c.args.old.now c.args.further.now _ _ c.in_ok-rows.ensures.items c.in_ok-places.ensures.items;
}

pub place_from-to-requires-clause-ordered : goal.place_from-to-requires-clause-ordered
place_from-to-requires-clause-ordered c = behind_ordered (columns_of c.args.keys.now) c.args.old.now _ c.loop-row.from c.requires.old

pub loop-row-preserved : goal.loop-row-preserved
loop-row-preserved c = record {
  merged =
      one_merged (columns_of c.args.keys.now) c.args.old.now c.args.further.now c.requires.earlier c.requires.old c.requires.further c.loop-row.rows.items _ c.loop-row.from _ c.loop-row.row-index _ c.loop-row.key_count _ c.from.result c.begins_anew.result
      c.loop-row-test.true (search rules) c.loop-row.invariant.merged c.place_from-to.ensures (search rules) (search rules) c.from.ensures refl;
  woven = one_woven c.args.old.now c.args.further.now c.loop-row.rows.items _ c.loop-row.places.items _ c.loop-row.from _ c.loop-row.row-index (get_or c.args.further.now c.loop-row.row-index 0) c.loop-row-test.true refl c.place_from-to.ensures.from (search rules) (search rules) c.loop-row.invariant.woven;
}

pub returns-clause-woven : goal.returns-clause-woven
returns-clause-woven c =
    let so = c.loop-row.invariant.woven in
    let all : c.loop-row.row-index ≡ length c.args.further.now = search rules in
    record {
      rows = all_rows_woven c.args.old.now c.args.further.now c.loop-row.rows.items _ c.loop-row.places.items c.loop-row.from c.loop-row.row-index so c.loop-row-test.false (c.in_ok-extend_from_slice-2.ensures.items ∙ ap (λ xs. c.loop-row.rows.items ++ xs) (take_rest c.args.old.now c.loop-row.from)) ∙ ap (λ fs. woven c.args.old.now 0 fs c.loop-row.places.items) (sym c.in_ok-from_slice.ensures.items);
      places = all_places c.args.old.now c.args.further.now c.loop-row.rows.items c.loop-row.rows.items c.loop-row.places.items c.loop-row.from c.loop-row.row-index so c.loop-row.invariant.merged.within;
      each = so.each ∙ all ∙ ap length (sym c.in_ok-from_slice.ensures.items);
    }
