use Rattle.std.proofs.Common.{◌∙◌, ◌++◌, sym, ap, take, append_assoc, arith}
use Rattle.std.specs.Prelude.{flat_map}
use Rattle.definitions.specs.Printing.{row_line}
use Rattle.result_lines.specs.Batches.{rows_in}
use Rattle.result_lines.specs.RowAt.{items_of, row_in}
use Rattle.result_lines.proofs.Batches.{row_more, there}
use Rattle.result_lines.proofs.column_rows.write_rows.Goals as goal

pub places-preserved : goal.places-preserved
places-preserved g c =
    let envs = g.B.RowBatch.environments c.args.batch.now in
    let items = items_of c.args.items.now in
    let place = c.places.place in
    let (env, at') = there envs place (omega (arith, c.places-test.true, c.len-place-end.ensures.exact)) in
    c.in_ok-write_columns.ensures.text env at'
    ∙ ap (λ text. text ++ row_line (row_in env items)) c.places.invariant
    ∙ append_assoc c.args.out.now.items (flat_map row_line (rows_in items (take place envs))) (row_line (row_in env items))
    ∙ ap (λ text. c.args.out.now.items ++ text) (sym (row_more (λ e. row_in e items) envs place env at'))
