use Rattle.std.proofs.Common.{◌∙◌}
use Rattle.catalog.proofs.Rows.{of_view, cell_in_table, value_in_table}
use Rattle.catalog.proofs.table.Table.cell.Goals as goal

pub cell-requires : goal.cell-requires
cell-requires c = value_in_table _ _ _ _ _ c.args.column _ (of_view _ _ _ _ _ _ c.self.view_is) c.self.invariant.filled c.requires.in_rows c.requires.in_columns c.index.ensures

pub returns : goal.returns
returns c = c.cell.ensures ∙ cell_in_table _ _ c.self.inside.len _ _ _ _ (of_view _ _ _ _ _ _ c.self.view_is) c.requires.in_rows c.requires.in_columns c.index.ensures
