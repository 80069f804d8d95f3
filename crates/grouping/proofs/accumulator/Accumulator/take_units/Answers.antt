use Rattle.std.proofs.Common.{rules, ◌∙◌, refl, sym, ap, ap₂, cond, ◌<◌, ◌+ℤ◌, length}
use Rattle.std.specs.Int.{w128}
use Rattle.std.proofs.lemmas.Int.{to_z-of_z}
use Rattle.definitions.specs.Value.{Number}
use Rattle.parse_tree.specs.Trees.{function_of}
use Rattle.sqlvalue.specs.Meaning.{number_of}
use Rattle.sqlvalue.specs.Owned.{owned_value}
use Rattle.grouping.specs.Accumulating.{replaces}
use Rattle.grouping.proofs.Carries.{fits_below, fits_if}
use Rattle.grouping.proofs.ByUnits.{units_taken}
use Rattle.grouping.proofs.accumulator.Accumulator.take_units.Goals as goal

pub returns-then-replaces-clause-taken : goal.returns-then-replaces-clause-taken
returns-then-replaces-clause-taken c shape vs all here h =
    let some : 0 < length c.args.units.now = search rules in
    let f = function_of c.args.self.now.function in
    let before = owned_value c.args.self.now.chosen in
    let best = number_of c.best_of-best.result in
    let total = c.add_sum.ensures.total ∙ ap (λ u. c.args.self.now.sum.total +ℤ u) (to_z-of_z w128 c.addend_of_units-sum.result.0 (fits_below c.addend_of_units-sum.result.0 (fits_if c.addend_of_units-sum.result.0 c.addend_of_units-sum.ensures.bounded)) ∙ c.addend_of_units-sum.ensures.units) in
    let chosen = sym (ap (λ b. cond b best before) (ap (λ w. replaces f w best) (sym c.value.ensures) ∙ sym c.replaces.ensures ∙ c.if-replaces.true)) ∙ ap (λ w. cond (replaces f before w) w before) (ap₂ Number c.best_of-best.ensures.units c.best_of-best.ensures.scale) in
    units_taken shape vs c.args.scale _ c.args.units.now c.args.self.now _ all here some refl refl c.add_sum.ensures.count total (c.add_sum.ensures.scale ∙ c.addend_of_units-sum.ensures.scale) chosen h

pub returns-else-replaces-clause-taken : goal.returns-else-replaces-clause-taken
returns-else-replaces-clause-taken c shape vs all here h =
    let some : 0 < length c.args.units.now = search rules in
    let f = function_of c.args.self.now.function in
    let before = owned_value c.args.self.now.chosen in
    let best = number_of c.best_of-best.result in
    let total = c.add_sum.ensures.total ∙ ap (λ u. c.args.self.now.sum.total +ℤ u) (to_z-of_z w128 c.addend_of_units-sum.result.0 (fits_below c.addend_of_units-sum.result.0 (fits_if c.addend_of_units-sum.result.0 c.addend_of_units-sum.ensures.bounded)) ∙ c.addend_of_units-sum.ensures.units) in
    let chosen = sym (ap (λ b. cond b best before) (ap (λ w. replaces f w best) (sym c.value.ensures) ∙ sym c.replaces.ensures ∙ c.if-replaces.false)) ∙ ap (λ w. cond (replaces f before w) w before) (ap₂ Number c.best_of-best.ensures.units c.best_of-best.ensures.scale) in
    units_taken shape vs c.args.scale _ c.args.units.now c.args.self.now _ all here some refl refl c.add_sum.ensures.count total (c.add_sum.ensures.scale ∙ c.addend_of_units-sum.ensures.scale) chosen h
