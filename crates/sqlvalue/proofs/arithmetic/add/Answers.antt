use Rattle.std.proofs.Common.{◌∙◌, sym}
use Rattle.std.specs.Prelude.{◌+ℤ◌}
use Rattle.sqlvalue.specs.Raises.{meaning_of}
use Rattle.sqlvalue.proofs.Calculating.{bits_keep, sum_is}
use Rattle.sqlvalue.proofs.arithmetic.add.Goals as goal

pub returns : goal.returns
returns c =
    let n = c.in-Some-Some in
    sum_is c.args.a.scale c.args.b.scale c.args.a.units c.args.b.units n.x n.y (meaning_of c.check_number.result)
    (rw (← c.max-scale.ensures) (sym (rw (bits_keep c.args.a.units c.args.a.bounded) at c.scale_up.ensures.exact) ∙ n.is-0)) (rw (← c.max-scale.ensures) (sym (rw (bits_keep c.args.b.units c.args.b.bounded) at c.scale_up-2.ensures.exact) ∙ n.is-1)) (rw (← c.max-scale.ensures) (c.check_number.ensures (n.x +ℤ n.y) (rw (bits_keep n.x n.ensures.below, bits_keep n.y n.ensures'.below) at c.checked_add.ensures)))
