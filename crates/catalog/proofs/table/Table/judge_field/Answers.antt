use Rattle.std.proofs.Common.{arith, Ok}
use Rattle.std.specs.Prelude.{IsNone}
use Rattle.definitions.specs.Value as values
use Rattle.definitions.specs.Loading.{ColumnLoads}
use Rattle.catalog.specs.Growth.{IsOf}
use Rattle.catalog.proofs.Rows.{of_view, columns_many, header_holds}
use Rattle.catalog.proofs.table.Table.judge_field.Goals as goal

pub returns-clause-loads : goal.returns-clause-loads
returns-clause-loads c =
    let view : IsOf c.self.inside.columns.items c.self.inside.indexes.items c.self.inside.len c.args.self.now = of_view _ _ _ _ _ _ c.self.view_is in
    rw view.columns
    (header_holds (λ d. IsNone c.judge.result → (v : values.Value) × ColumnLoads d c.args.field.now (Ok v)) c.self.inside.columns.items c.args.column c.index.result.now
    (omega (arith, c.requires, columns_many _ _ c.self.inside.len _ view)) c.index.ensures c.judge.ensures.loads)
