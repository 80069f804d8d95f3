use Rattle.std.proofs.Common.{◌∙◌, ap, arith}
use Rattle.std.specs.Prelude.{option_map}
use Rattle.sqlvalue.specs.Meaning.{value_of}
use Rattle.std.specs.Int.{w128}
use Rattle.std.proofs.lemmas.Int.{to_z-of_z, fits_signed_from_abs}
use Rattle.indexes.specs.Ranges.{widened_by}
use Rattle.indexes.specs.Meaning.{key_range_of}
use Rattle.indexes.proofs.Counted.{with_number, without_number, no_number}
use Rattle.indexes.proofs.counting.key_range.Goals as goal
use Rattle.indexes.proofs.counting.key_range.Goals.{in-Num, in_default}

pub loop-row-preserved : goal.loop-row-preserved
loop-row-preserved c = elim c.match-cell.branch [
  | in-Num w ↦ ap (option_map key_range_of) w.range-is ∙ with_number c.args.column.now.values c.loop-row.row _ w.in-Num.number.units w.in-Num.number.scale (option_map key_range_of c.loop-row.range) (key_range_of w.widen_range.result) (omega (arith, c.loop-row-test.true, c.requires)) c.cell.ensures (ap value_of w.in-Num.is) c.loop-row.invariant (w.widen_range.ensures ∙ ap (widened_by (option_map key_range_of c.loop-row.range)) (to_z-of_z w128 w.in-Num.number.units (fits_signed_from_abs w128 w.in-Num.number.units (omega (arith, w.in-Num.number.bounded)))))
  | in_default w ↦ ap (option_map key_range_of) w.range-is ∙ without_number c.args.column.now.values c.loop-row.row _ (option_map key_range_of c.loop-row.range) (omega (arith, c.loop-row-test.true, c.requires)) c.cell.ensures (no_number c.cell.result w.in_default.not-Num) c.loop-row.invariant
]
