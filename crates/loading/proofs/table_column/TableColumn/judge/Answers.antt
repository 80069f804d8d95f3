use Rattle.std.proofs.Common.{◌∙◌, refl, sym}
use Rattle.loading.proofs.Stored.{null_refused, column_loads, column_faulty, not_null_where}
use Rattle.loading.proofs.table_column.TableColumn.judge.Goals as goal

pub returns-then-refuses_null-clause-refused : goal.returns-then-refuses_null-clause-refused
returns-then-refuses_null-clause-refused c =
    null_refused c.args.self.now.header c.args.field.now (sym c.refuses_null.ensures ∙ c.if-refuses_null.true)

pub returns-in-Some-clause-refused : goal.returns-in-Some-clause-refused
returns-in-Some-clause-refused c = column_faulty c.args.self.now.header c.args.field.now _ c.in-Some.ensures.refused

pub returns-in-None-clause-loads : goal.returns-in-None-clause-loads
returns-in-None-clause-loads c none =
    let (v, loads) = c.in-None.ensures.loads refl in
    (v, column_loads c.args.self.now.header c.args.field.now v loads (not_null_where _ _ (sym c.refuses_null.ensures ∙ c.if-refuses_null.false)))
