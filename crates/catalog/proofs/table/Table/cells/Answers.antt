use Rattle.std.proofs.Common.{◌∙◌, ap}
use Rattle.columns.specs.Cells.{CellList}
use Rattle.catalog.proofs.Rows.{of_view, cells_in_table}
use Rattle.catalog.proofs.table.Table.cells.Goals as goal

pub returns : goal.returns
returns c =
    ap (λ (l : CellList). l.values) c.cells.ensures
    ∙ cells_in_table _ _ _ _ c.args.column _ (of_view _ _ _ _ _ _ c.self.view_is) c.self.invariant.filled c.requires c.index.ensures
