use Rattle.sqlvalue.specs.Meaning.{type_of}
use Rattle.query_rules.proofs.Columns.{column_at}
use Rattle.query_rules.proofs.table_columns.column_at.Goals as goal

pub returns : goal.returns
returns c = column_at c.args.place c.args.number c.args.table.now.columns (type_of c.sql_type.result) c.column_name.result.now c.sql_type.ensures.exact c.column_name.ensures
