use Rattle.std.proofs.Common.{◌∙◌, ap, subst, take, Some}
use Rattle.loading.specs.Stored.{headers, rows_of}
use Rattle.indexes.specs.Indexes.{RefusesIndexOn}
use Rattle.indexes.proofs.FirstRepeats.{one_more_made, one_more_repeated, next_index, place_is, alike_so_far}
use Rattle.indexes.proofs.extension.extend_indexes.Goals as goal
use Rattle.indexes.proofs.extension.extend_indexes.Goals.{in-Ok+in_ok-push-in-Ok, in-Err-Repeated}

pub loop-place-preserved : goal.loop-place-preserved
loop-place-preserved c =
    let columns = headers c.args.columns.now in
    let rows = rows_of c.args.rows c.args.columns.now in
    let before = take c.loop-place.place c.args.indexes.now in
    let index = c.index-indexes-place.result in
    let next = next_index c.args.indexes.now c.loop-place.place index c.loop-place-test.true c.index-indexes-place.is in
    elim c.match-with_further_rows.branch [
      | in-Ok+in_ok-push-in-Ok w ↦ alike_so_far columns rows _ _ _ _ _ _ next (ap (λ v. v.items) w.made-is ∙ (w.in_ok-push-in-Ok.ensures).items) w.first-is
          (one_more_made columns rows before c.loop-place.made.items c.loop-place.first index w.in-Ok.index (w.in-Ok.ensures).ok c.loop-place.invariant)
      | in-Err-Repeated w ↦ alike_so_far columns rows _ _ _ _ _ _ next (ap (λ v. v.items) w.made-is) (w.first-is ∙ ap Some w.earlier_of.ensures)
          (one_more_repeated columns rows before c.loop-place.made.items c.loop-place.first index c.loop-place.place w.in-Err-Repeated.key (place_is c.args.indexes.now c.loop-place.place c.loop-place-test.true) (subst (RefusesIndexOn rows index.index.columns index.index.unique) w.in-Err-Repeated.field-0-is (w.in-Err-Repeated.ensures).refused) c.loop-place.invariant)
    ]
