use Rattle.std.proofs.Common.{arith}
use Rattle.catalog.proofs.Rows.{of_view, columns_many, type_at}
use Rattle.catalog.proofs.table.Table.sql_type.Goals as goal

pub returns-clause-valid : goal.returns-clause-valid
returns-clause-valid c =
    rw c.sql_type.ensures (type_at c.self.inside.columns.items c.args.column c.index.result.now c.self.invariant.valid.types (omega (arith, c.requires, columns_many _ _ c.self.inside.len _ (of_view _ _ _ _ _ _ c.self.view_is))) c.index.ensures)
