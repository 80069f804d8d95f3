use Rattle.std.proofs.Common.{◌-ℤ◌, pos, rules, arith, to_z-of_z, FitsSigned}
use Rattle.std.specs.Int.{w128}
use Rattle.std.proofs.lemmas.Int.{ints}
use Rattle.columns.proofs.Orders.{at_most_up, below_up, at_most_down, below_down}
use Rattle.columns.proofs.range.nearest_at_other.Goals as goal

pub returns-then-value-scale-clause-at_most : goal.returns-then-value-scale-clause-at_most
returns-then-value-scale-clause-at_most c = λ u h.
    let p : FitsSigned w128 c.power_of_ten.result = search rules in
    let v : FitsSigned w128 c.args.value.units = omega (arith, ints) in
    let m : FitsSigned w128 c.saturating_mul-at_most.result = search rules in
    let e = simp to_z-of_z at c.saturating_mul-at_most.ensures in
    simp to_z-of_z (at_most_up u c.args.value.units c.power_of_ten.result c.saturating_mul-at_most.result c.args.value.scale c.args.scale h (search rules) c.power_of_ten.ensures.exact e)

pub returns-then-value-scale-clause-below : goal.returns-then-value-scale-clause-below
returns-then-value-scale-clause-below c = λ u h.
    let p : FitsSigned w128 c.power_of_ten.result = search rules in
    let v : FitsSigned w128 c.args.value.units = omega (arith, ints) in
    let m : FitsSigned w128 c.saturating_mul-at_most.result = search rules in
    let b : FitsSigned w128 c.saturating_sub.result = search rules in
    let e = simp to_z-of_z at c.saturating_mul-at_most.ensures in
    let i = simp to_z-of_z at c.saturating_sub.ensures in
    simp to_z-of_z (below_up u c.args.value.units c.power_of_ten.result c.saturating_mul-at_most.result c.saturating_sub.result c.args.value.scale c.args.scale h (search rules) c.power_of_ten.ensures.exact e i)

pub returns-else-value-scale-clause-at_most : goal.returns-else-value-scale-clause-at_most
returns-else-value-scale-clause-at_most c = λ u h.
    let p : FitsSigned w128 c.power_of_ten-one.result = search rules in
    let v : FitsSigned w128 c.args.value.units = omega (arith, ints) in
    let m : FitsSigned w128 c.div_euclid-else-value-scale.result = search rules in
    let e = simp to_z-of_z at c.div_euclid-else-value-scale.ensures in
    simp to_z-of_z (at_most_down u c.args.value.units c.power_of_ten-one.result c.div_euclid-else-value-scale.result c.args.value.scale c.args.scale (omega arith) c.power_of_ten-one.ensures.exact e)

pub returns-else-value-scale-clause-below : goal.returns-else-value-scale-clause-below
returns-else-value-scale-clause-below c = λ u h.
    let p : FitsSigned w128 c.power_of_ten-one.result = search rules in
    let v : FitsSigned w128 c.args.value.units = omega (arith, ints) in
    let d : FitsSigned w128 (c.args.value.units -ℤ pos 1) = omega (arith, ints) in
    let m : FitsSigned w128 c.div_euclid.result = search rules in
    let e = simp to_z-of_z at c.div_euclid.ensures in
    simp to_z-of_z (below_down u c.args.value.units c.power_of_ten-one.result c.div_euclid.result c.args.value.scale c.args.scale (omega arith) c.power_of_ten-one.ensures.exact e)
