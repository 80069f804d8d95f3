use Rattle.std.proofs.Common.{◌∙◌, sym, arith}
use Rattle.filters.specs.Sources.{block_in}
use Rattle.filters.proofs.Cells.{none_without_table, none_without_row, none_without_column, value_is}
use Rattle.filters.proofs.block_source.BlockSource.cell.Goals as goal
use Rattle.filters.proofs.block_source.BlockSource.cell.Goals.{then-row-len-via-then-row-len, then-row-len-via-else-row-len+then-column-width}

pub returns-then-column-table_count : goal.returns-then-column-table_count
returns-then-column-table_count c =
    let s = c.args.self.now in
    sym (none_without_table s.database (block_in s) c.args.column.table c.args.column.number c.args.row (omega (arith, c.if-column-table_count.true, c.table_count.ensures.exact)))

pub returns-then-row-len : goal.returns-then-row-len
returns-then-row-len c =
    let s = c.args.self.now in
    elim c.then-row-len.branch [
      | then-row-len-via-then-row-len w ↦ sym (none_without_row s.database (block_in s) c.args.column.table c.args.column.number c.args.row _ c.table-table.ensures.exact (omega (arith, w.if-row-len.true, c.len.ensures.exact)))
      | then-row-len-via-else-row-len+then-column-width w ↦ sym (none_without_column s.database (block_in s) c.args.column.table c.args.column.number c.args.row _ c.table-table.ensures.exact c.len.ensures.whole (omega (arith, w.if-column-width.true, w.width.ensures)))
    ]

pub returns : goal.returns
returns c =
    let s = c.args.self.now in
    c.cell.ensures ∙ sym (value_is s.database (block_in s) c.args.column.table c.args.column.number c.args.row _ c.table-table.ensures.exact)
