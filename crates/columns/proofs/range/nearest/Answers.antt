use Rattle.std.proofs.Common.{◌-ℤ◌, pos, arith, to_z-of_z, FitsSigned}
use Rattle.std.specs.Int.{w128}
use Rattle.std.proofs.lemmas.Int.{ints}
use Rattle.columns.proofs.Orders.{at_most_same, below_same}
use Rattle.columns.proofs.range.nearest.Goals as goal

pub returns-then-value-scale-clause-below : goal.returns-then-value-scale-clause-below
returns-then-value-scale-clause-below c = λ u h.
    let v : FitsSigned w128 c.args.value.units = omega (arith, ints) in
    let b : FitsSigned w128 (c.args.value.units -ℤ pos 1) = omega (arith, ints) in
    simp to_z-of_z (below_same u c.args.value.units c.args.value.scale c.args.scale c.if-value-scale.true)

pub returns-then-value-scale-clause-at_most : goal.returns-then-value-scale-clause-at_most
returns-then-value-scale-clause-at_most c = λ u h.
    let v : FitsSigned w128 c.args.value.units = omega (arith, ints) in
    simp to_z-of_z (at_most_same u c.args.value.units c.args.value.scale c.args.scale c.if-value-scale.true)
