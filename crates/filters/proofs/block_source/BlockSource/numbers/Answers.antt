use Rattle.std.proofs.Common.{◌∙◌, ap, sym}
use Rattle.columns.specs.Columns.{cells_of}
use Rattle.filters.specs.Sources.{block_in}
use Rattle.filters.proofs.Cells.{column_is}
use Rattle.filters.proofs.block_source.BlockSource.numbers.Goals as goal

pub returns-in-Numbers : goal.returns-in-Numbers
returns-in-Numbers c = λ row.
    let s = c.args.self.now in
    let values = c.in-Numbers.numbers.values in
    column_is s.database (block_in s) c.args.column.table c.args.column.number row _ c.table-table.ensures.exact values (ap (λ k. (cells_of k).values) (sym c.in-Numbers.is) ∙ c.cells.ensures)
