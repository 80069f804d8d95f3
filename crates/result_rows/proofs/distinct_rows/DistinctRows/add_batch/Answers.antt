use Rattle.std.proofs.Common.{◌∙◌, ◌++◌, ◌∷◌, [], sym, ap, subst, take, append_assoc, arith, List}
use Rattle.std.proofs.lemmas.List.{append-nil, take_all}
use Rattle.definitions.specs.Queries.Evaluation.{Environment}
use Rattle.result_lines.specs.Batches.{rows_in}
use Rattle.result_rows.specs.ResultRows.{HasDistinct}
use Rattle.result_lines.specs.RowAt.{items_of, row_in}
use Rattle.result_lines.proofs.Batches.{one_more, there}
use Rattle.result_rows.proofs.distinct_rows.DistinctRows.add_batch.Goals as goal

pub places-init : goal.places-init
places-init g c names rows h = subst (λ rs. HasDistinct names rs c.args.self.now) (sym (append-nil rows)) h

pub places-preserved : goal.places-preserved
places-preserved g c names rows h =
    let envs = g.B.RowBatch.environments c.args.batch.now in
    let items = items_of c.args.items.now in
    let place = c.places.place in
    let (env, at') = there envs place (omega (arith, c.places-test.true, c.len-place-end.ensures.exact)) in
    let row = row_in env items in
    subst (λ rs. HasDistinct names rs c.add_row.new.self) (append_assoc rows (rows_in items (take place envs)) (row ∷ []) ∙ ap (λ rs. rows ++ rs) (sym (one_more (λ e. row_in e items) envs place env at')))
    (c.in_ok-add_row.ensures names (rows ++ rows_in items (take place envs)) env at' (c.places.invariant names rows h))

pub returns : goal.returns
returns g c names rows h =
    let envs = g.B.RowBatch.environments c.args.batch.now in
    subst (λ (es : List Environment). HasDistinct names (rows ++ rows_in (items_of c.args.items.now) es) c.places.self)
    (take_all c.places.place envs (omega (arith, c.places-test.false, c.len-place-end.ensures.exact)))
    (c.places.invariant names rows h)
