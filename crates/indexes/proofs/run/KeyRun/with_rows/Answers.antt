use Rattle.std.proofs.Common.{◌≡◌, ◌∙◌, ap, map, rules}
use Rattle.indexes.specs.Keys.{columns_of, gathered, types_of}
use Rattle.std.proofs.lemmas.List.{length-map}
use Rattle.columns.specs.Columns.{cells_of}
use Rattle.indexes.specs.Runs.{Index, entries_at}
use Rattle.indexes.proofs.Carried.{if_carried, key_at_place}
use Rattle.indexes.proofs.Gathered.{all_gathered, types_gathered, height_gathered, entries_gathered}
use Rattle.indexes.proofs.Rows.{keys_entered}
use Rattle.indexes.proofs.run.KeyRun.with_rows.Goals as goal

pub invariant_of-result : goal.invariant_of-result
invariant_of-result c =
    let e : c.loop-place.columns.items ≡ map (gathered c.args.keyed.rows.items) (columns_of c.args.keys.now) = all_gathered _ c.args.keyed.rows.items c.args.keys.now c.loop-place.place (search rules) c.loop-place.invariant in
    record {
      paired = rw e (height_gathered c.args.keyed.rows.items (columns_of c.args.keys.now));
      rising = rw (e, entries_gathered c.args.keyed.rows.items (columns_of c.args.keys.now)) c.requires.rising;
      counted = rw (e, entries_gathered c.args.keyed.rows.items (columns_of c.args.keys.now), keys_entered (columns_of c.args.keys.now) c.args.keyed.rows.items) c.requires.counted;
    }

pub returns-clause-types : goal.returns-clause-types
returns-clause-types c =
    let e : c.loop-place.columns.items ≡ map (gathered c.args.keyed.rows.items) (columns_of c.args.keys.now) = all_gathered _ c.args.keyed.rows.items c.args.keys.now c.loop-place.place (search rules) c.loop-place.invariant in
    ap types_of e ∙ types_gathered c.args.keyed.rows.items (columns_of c.args.keys.now)

pub returns-clause-entries : goal.returns-clause-entries
returns-clause-entries c =
    let e : c.loop-place.columns.items ≡ map (gathered c.args.keyed.rows.items) (columns_of c.args.keys.now) = all_gathered _ c.args.keyed.rows.items c.args.keys.now c.loop-place.place (search rules) c.loop-place.invariant in
    ap (λ cs. entries_at cs 0 c.args.keyed.rows.items) e ∙ entries_gathered c.args.keyed.rows.items (columns_of c.args.keys.now)

pub of_rows-requires : goal.of_rows-requires
of_rows-requires c = if_carried c.self.inside.columns.items (columns_of c.args.keys.now) c.self.inside.rows.items c.args.self.now.entries c.args.keyed (ap (λ (i : Index). i.entries) c.self.view_is) c.requires.old c.requires.woven c.self.invariant.paired
    c.loop-place.place _ (rw (length-map c.args.keys.now (λ column. cells_of column.now)) c.loop-place-test.true) (key_at_place c.args.keys.now c.loop-place.place _ c.loop-place-test.true c.index-keys-place.is) c.get-old.result (rw c.deref.ensures.value at c.get-old.ensures.lookup)
