use Rattle.std.proofs.Common.{◌∙◌, ap₂}
use Rattle.std.specs.Int.{w128}
use Rattle.std.proofs.lemmas.Int.{to_z-of_z}
use Rattle.definitions.specs.Estimates.Fractions.{fraction}
use Rattle.definitions.specs.Estimates.KeyRanges.{distance}
use Rattle.estimate.proofs.key_ranges.Extent.part_between.Goals as goal

pub returns-clause-exact : goal.returns-clause-exact
returns-clause-exact c =
    let from = to_z-of_z w128 c.clamp-from.result (record { sfits = c.clamp-from.type_inv }) ∙ c.clamp-from.ensures.exact in
    let to = to_z-of_z w128 c.clamp-to.result (record { sfits = c.clamp-to.type_inv }) ∙ c.clamp-to.ensures.exact in
    c.fraction.ensures.exact ∙ ap₂ fraction (c.distance.ensures ∙ ap₂ distance from to) c.width.ensures.exact
