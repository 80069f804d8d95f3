use Rattle.std.proofs.Common.{◌∙◌, ◌++◌, ap}
use Rattle.std.specs.Prelude.{flat_map}
use Rattle.std.proofs.lemmas.Result.{on_ok_weaker}
use Rattle.definitions.specs.Printing.{row_line}
use Rattle.columns.specs.Cells.{number_or_null}
use Rattle.columns.specs.Starts.{value_in}
use Rattle.result_lines.specs.Batches.{rows_of_units}
use Rattle.result_lines.proofs.UnitLines.{rows_alike}
use Rattle.result_lines.proofs.unit_lines.write_part.Goals as goal

pub returns : goal.returns
returns c =
    let column = c.args.numbers.now in
    let units = c.read_units.new.units in
    let rows = ap (λ type. rows_of_units type units) c.sql_type.ensures.same ∙ rows_alike (number_or_null column.type) (value_in column) units c.args.rows.now c.read_units.ensures in
    on_ok_weaker c.write_lines.result (λ written. written ∙ ap (λ all. c.args.out.now.items ++ flat_map row_line all) rows) c.write_lines.ensures
