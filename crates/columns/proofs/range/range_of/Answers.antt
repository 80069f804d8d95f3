use Rattle.std.proofs.Common.{rules, to_z-of_z, FitsSigned, ◌∙◌, ap, not}
use Rattle.std.specs.Int.{w64, w128}
use Rattle.columns.proofs.Orders.{is_in_inside, equal_in, not_equal_in, less_in, less_or_equal_in, greater_in, greater_or_equal_in}
use Rattle.columns.proofs.range.range_of.Goals as goal

pub returns-in-Equals : goal.returns-in-Equals
returns-in-Equals c = λ u h.
    let b : FitsSigned w128 c.nearest-below.result.below = search rules in
    let m : FitsSigned w128 c.nearest-below.result.at_most = search rules in
    let l : FitsSigned w128 c.saturating_add.result = search rules in
    let i = simp to_z-of_z at c.saturating_add.ensures in
    let e = simp to_z-of_z at (c.between.ensures.units u h) in
    rw c.in-Equals.is (equal_in u c.args.value.units c.args.scale c.args.value.scale c.nearest-below.result.below c.nearest-below.result.at_most h (c.nearest-below.ensures.below u h) (c.nearest-below.ensures.at_most u h) c.saturating_add.result i ∙ e)

pub returns-in-NotEquals : goal.returns-in-NotEquals
returns-in-NotEquals c = λ u h.
    let b : FitsSigned w128 c.nearest-below.result.below = search rules in
    let m : FitsSigned w128 c.nearest-below.result.at_most = search rules in
    let l : FitsSigned w128 c.saturating_add-in-NotEquals.result = search rules in
    let i = simp to_z-of_z at c.saturating_add-in-NotEquals.ensures in
    let e = simp to_z-of_z at (c.between-in-NotEquals.ensures.units u h) in
    let p : FitsSigned w64 c.between-in-NotEquals.result.low = search rules in
    let q : FitsSigned w64 c.between-in-NotEquals.result.high = search rules in
    rw c.in-NotEquals.is (simp to_z-of_z (not_equal_in u c.args.value.units c.args.scale c.args.value.scale c.nearest-below.result.below c.nearest-below.result.at_most h (c.nearest-below.ensures.below u h) (c.nearest-below.ensures.at_most u h) c.saturating_add-in-NotEquals.result i ∙ ap not (e ∙ is_in_inside c.between-in-NotEquals.result u c.between-in-NotEquals.ensures.inside)))

pub returns-in-LessThan : goal.returns-in-LessThan
returns-in-LessThan c = λ u h.
    let b : FitsSigned w128 c.nearest-below.result.below = search rules in
    let m : FitsSigned w128 c.nearest-below.result.at_most = search rules in
    let l : FitsSigned w128 c.from-least.result = search rules in
    let e = simp to_z-of_z at (c.between-in-LessThan.ensures.units u h) in
    rw c.in-LessThan.is (less_in u c.args.value.units c.args.scale c.args.value.scale c.nearest-below.result.below c.nearest-below.result.at_most h (c.nearest-below.ensures.below u h) (c.nearest-below.ensures.at_most u h) c.from-least.result c.from-least.ensures ∙ e)

pub returns-in-LessOrEquals : goal.returns-in-LessOrEquals
returns-in-LessOrEquals c = λ u h.
    let b : FitsSigned w128 c.nearest-below.result.below = search rules in
    let m : FitsSigned w128 c.nearest-below.result.at_most = search rules in
    let l : FitsSigned w128 c.from-least.result = search rules in
    let e = simp to_z-of_z at (c.between-in-LessOrEquals.ensures.units u h) in
    rw c.in-LessOrEquals.is (less_or_equal_in u c.args.value.units c.args.scale c.args.value.scale c.nearest-below.result.below c.nearest-below.result.at_most h (c.nearest-below.ensures.below u h) (c.nearest-below.ensures.at_most u h) c.from-least.result c.from-least.ensures ∙ e)

pub returns-in-GreaterThan : goal.returns-in-GreaterThan
returns-in-GreaterThan c = λ u h.
    let b : FitsSigned w128 c.nearest-below.result.below = search rules in
    let m : FitsSigned w128 c.nearest-below.result.at_most = search rules in
    let l : FitsSigned w128 c.saturating_add-in-GreaterThan.result = search rules in
    let i = simp to_z-of_z at c.saturating_add-in-GreaterThan.ensures in
    let g : FitsSigned w128 c.from-greatest.result = search rules in
    let e = simp to_z-of_z at (c.between-in-GreaterThan.ensures.units u h) in
    rw c.in-GreaterThan.is (greater_in u c.args.value.units c.args.scale c.args.value.scale c.nearest-below.result.below c.nearest-below.result.at_most h (c.nearest-below.ensures.below u h) (c.nearest-below.ensures.at_most u h) c.saturating_add-in-GreaterThan.result c.from-greatest.result i c.from-greatest.ensures ∙ e)

pub returns-in-GreaterOrEquals : goal.returns-in-GreaterOrEquals
returns-in-GreaterOrEquals c = λ u h.
    let b : FitsSigned w128 c.nearest-below.result.below = search rules in
    let m : FitsSigned w128 c.nearest-below.result.at_most = search rules in
    let l : FitsSigned w128 c.saturating_add-in-GreaterOrEquals.result = search rules in
    let i = simp to_z-of_z at c.saturating_add-in-GreaterOrEquals.ensures in
    let g : FitsSigned w128 c.from-greatest.result = search rules in
    let e = simp to_z-of_z at (c.between-in-GreaterOrEquals.ensures.units u h) in
    rw c.in-GreaterOrEquals.is (greater_or_equal_in u c.args.value.units c.args.scale c.args.value.scale c.nearest-below.result.below c.nearest-below.result.at_most h (c.nearest-below.ensures.below u h) (c.nearest-below.ensures.at_most u h) c.saturating_add-in-GreaterOrEquals.result c.from-greatest.result i c.from-greatest.ensures ∙ e)
