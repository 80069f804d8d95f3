use Rattle.std.proofs.lemmas.Result.{on_ok_weaker}
use Rattle.sqlvalue.specs.Meaning as sql
use Rattle.result_lines.proofs.Bounded.{is_in_bounds}
use Rattle.result_lines.proofs.column_rows.write_column.Goals as goal

pub returns : goal.returns
returns g c = on_ok_weaker c.write_field.result (λ written env at'. (sql.value_of c.value_at.result, c.value_at.ensures env at', is_in_bounds c.value_at.result, written)) c.write_field.ensures
