use Rattle.std.proofs.Common.{◌∙◌, sym, ap}
use Rattle.query_tree.specs.Bound.{column_of}
use Rattle.filters.specs.Sources.{block_in}
use Rattle.filters.proofs.Cells.{cell_there, value_there}
use Rattle.filters.proofs.row_context.RowContextEnvironment.cell.Goals as goal

pub returns : goal.returns
returns c c' =
    let p = c'.args.self.now in
    let s = p.source.now in
    let column = column_of c'.args.column in
    c'.cell.ensures ∙ ap (value_there s.database (block_in s) column.table column.number) c'.row_number.ensures ∙ sym (cell_there s.database (block_in s) p.rows.now column)
