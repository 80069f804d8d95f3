use Rattle.std.proofs.Common.{◌∙◌, sym, Err}
use Rattle.definitions.specs.Loading.{FieldLoads}
use Rattle.sqlvalue.specs.RefusalMeaning.{field_error_of}
use Rattle.loading.proofs.Pushing.{refused_is}
use Rattle.loading.proofs.Stored.{null_refused, column_loads, column_faulty, not_null_where}
use Rattle.loading.proofs.table_column.TableColumn.push_field.Goals as goal

pub returns-then-refuses_null-clause-refused : goal.returns-then-refuses_null-clause-refused
returns-then-refuses_null-clause-refused c =
    null_refused c.args.self.now.header c.args.field.now (sym c.refuses_null.ensures ∙ c.if-refuses_null.true)

pub returns-in-Ok-clause-ok : goal.returns-in-Ok-clause-ok
returns-in-Ok-clause-ok c =
    let (v, loads, new) = (c.in-Ok.ensures).ok in
    (v, column_loads c.args.self.now.header c.args.field.now v loads (not_null_where _ _ (sym c.refuses_null.ensures ∙ c.if-refuses_null.false)), new)

pub returns-in-Err-Refused-clause-refused : goal.returns-in-Err-Refused-clause-refused
returns-in-Err-Refused-clause-refused c =
    column_faulty c.args.self.now.header c.args.field.now _
    (refused_is c.in-Err-Refused.field-0 c.in-Err-Refused.fault (λ f. FieldLoads c.args.self.now.header.type c.args.field.now (Err (field_error_of f))) c.in-Err-Refused.field-0-is (c.in-Err-Refused.ensures).refused)
