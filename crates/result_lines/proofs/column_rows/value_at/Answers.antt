use Rattle.std.proofs.Common.{◌∙◌, ◌<◌, refl, sym, ap, subst, arith}
use Rattle.definitions.specs.Arithmetic.{Is}
use Rattle.definitions.specs.Value.{Value as ValueOf}
use Rattle.definitions.specs.Queries.Evaluation as meaning
use Rattle.query_tree.specs.Bound.{column_of, value_of}
use Rattle.query_tree.proofs.Views.{of_column}
use Rattle.result_lines.proofs.Batches.{same_length, value_at}
use Rattle.result_lines.proofs.column_rows.value_at.Goals as goal

pub bounds-rows-place : goal.bounds-rows-place
bounds-rows-place g c =
    let batch = c.args.batch.now in
    let column = column_of c.in-Column.column in
    let same = same_length (g.B.RowBatch.value_in batch column) (λ (env : meaning.Environment). meaning.cell env.combination column) c.rows.result.now (g.B.RowBatch.environments batch) (c.rows.ensures.values column refl) in
    subst (λ n. c.args.place < n) (sym same) c.requires.within

pub offset_bounds-rows-place : goal.offset_bounds-rows-place
offset_bounds-rows-place g c =
    let batch = c.args.batch.now in
    let column = column_of c.in-Column.column in
    let same = same_length (g.B.RowBatch.value_in batch column) (λ (env : meaning.Environment). meaning.cell env.combination column) c.rows.result.now (g.B.RowBatch.environments batch) (c.rows.ensures.values column refl) in
    let within = c.requires.within in
    let few = c.rows.ensures.few in
    omega (arith, same, within, few)

pub returns : goal.returns
returns g c env at' =
    let batch = c.args.batch.now in
    let column = column_of c.in-Column.column in
    let value_in = g.B.RowBatch.value_in batch column in
    let cell : meaning.Environment → ValueOf = λ (env : meaning.Environment). meaning.cell env.combination column in
    let same = same_length value_in cell c.rows.result.now (g.B.RowBatch.environments batch) (c.rows.ensures.values column refl) in
    let here = c.cell.ensures ∙ value_at value_in cell c.rows.result.now (g.B.RowBatch.environments batch) c.args.place 0 env (c.rows.ensures.values column refl) at' (subst (λ n. c.args.place < n) (sym same) c.requires.within) in
    ap (λ v. meaning.value env (value_of v)) c.in-Column.is ∙ ap (meaning.value env) (of_column c.in-Column.column c.in-Column.sql_type) ∙ ap Is (sym here)
