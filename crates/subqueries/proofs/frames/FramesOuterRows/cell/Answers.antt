use Rattle.std.proofs.Common.{◌≡◌, ◌∙◌, ◌<◌, ◌-◌, sym, ap, length, get_or, vec_len, arith}
use Rattle.std.proofs.lemmas.Bool.Decides.{nat_tests}
use Rattle.definitions.specs.Queries.Evaluation.{cell}
use Rattle.query_tree.specs.Bound.{column_of}
use Rattle.filters.specs.Sources.{block_in}
use Rattle.filters.proofs.Cells.{cell_there, value_there}
use Rattle.subqueries.proofs.Nearest.{frame_at}
use Rattle.subqueries.proofs.frames.FramesOuterRows.cell.Goals as goal

pub returns : goal.returns
returns g c =
    let f = c.index-frame.result.now in
    let s = f.source.now in
    let column = column_of c.args.column in
    let within : c.args.between < length c.args.self.now.frames.items = grind (arith, nat_tests, c.if-between-count.false, c.len-count.ensures) in
    let long : vec_len c.args.self.now.frames ≡ length c.args.self.now.frames.items = omega (arith, c.args.self.now.frames.ok.0) in
    c.cell.ensures
    ∙ ap (value_there s.database (block_in s) column.table column.number) (c.row_number-row.ensures ∙ ap (λ rows. get_or rows column.table 0) c.as_slice.ensures)
    ∙ sym (cell_there s.database (block_in s) f.combination.items column)
    ∙ ap (λ combination. cell combination column) (sym (frame_at c.args.self.now.frames.items c.args.between f within (c.index-frame.ensures ∙ ap (λ n. get_or c.args.self.now.frames.items (n - 1 - c.args.between) f) (c.len-count.ensures ∙ long))))
