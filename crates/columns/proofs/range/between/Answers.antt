use Rattle.std.proofs.Common.{rules, to_z-of_z, FitsSigned, ap₂, ◌&&◌}
use Rattle.std.specs.Int.{w64, w128}
use Rattle.columns.proofs.Orders.{raised, lowered}
use Rattle.columns.proofs.range.between.Goals as goal

pub returns-clause-units : goal.returns-clause-units
returns-clause-units c = λ u h.
    let k = c.ranges.low in
    let l = c.ranges.high in
    let f : FitsSigned w128 c.from-least.result = search rules in
    let g : FitsSigned w128 c.from-greatest.result = search rules in
    let m : FitsSigned w128 c.max.result = search rules in
    let n : FitsSigned w128 c.min.result = search rules in
    let m' : FitsSigned w64 c.max.result = search rules in
    let n' : FitsSigned w64 c.min.result = search rules in
    let low = simp to_z-of_z at c.max.ensures.value in
    let high = simp to_z-of_z at c.min.ensures.value in
    let d = c.from-least.ensures in
    let e = c.from-greatest.ensures in
    simp to_z-of_z (ap₂ ◌&&◌ (raised u c.args.low c.from-least.result c.max.result h (search rules) low) (lowered u c.args.high c.from-greatest.result c.min.result h (search rules) high))
