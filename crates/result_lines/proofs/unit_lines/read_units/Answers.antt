use Rattle.std.proofs.Common.{None, arith}
use Rattle.columns.specs.Cells.{number_or_null}
use Rattle.columns.specs.Starts.{value_in}
use Rattle.result_lines.proofs.UnitLines.{alike_by_places}
use Rattle.result_lines.proofs.unit_lines.read_units.Goals as goal

pub returns : goal.returns
returns c =
    let column = c.args.numbers.now in
    alike_by_places (number_or_null column.type) (value_in column) c.rows.units c.args.rows.now None 0 c.rows.invariant.long (λ k h. c.rows.invariant.here k (omega (arith, h)))
