use Rattle.std.proofs.Common.{◌≡◌, ◌∙◌, ap, ◌^◌}
use Rattle.std.specs.Prelude.{pos}
use Rattle.std.specs.Int.{w128}
use Rattle.std.proofs.lemmas.Int.{to_z-of_z}
use Rattle.definitions.specs.Estimates.KeyRanges.{drawn}
use Rattle.estimate.specs.Ranges.{range_of}
use Rattle.estimate.proofs.Drawing.{clamped_is_drawn, quotient_fits, saturated_fits}
use Rattle.estimate.proofs.key_ranges.Extent.clamp.Goals as goal

pub nonzero_div-units : goal.nonzero_div-units
nonzero_div-units c =
    let number = c.args.number in
    let power = c.pow.ensures ∙ ap (λ n. pos (10 ^ n)) c.from-2.ensures in
    quotient_fits c.saturating_mul-units.result c.pow.result number.scale number.scaled power (rw c.saturating_mul-units.ensures (saturated_fits _))

pub returns-clause-exact : goal.returns-clause-exact
returns-clause-exact c =
    let number = c.args.number in
    let extent = c.args.self in
    let power = c.pow.ensures ∙ ap (λ n. pos (10 ^ n)) c.from-2.ensures in
    let exact : c.clamp.result ≡ drawn (range_of extent) c.args.key_scale number.units number.scale =
    clamped_is_drawn (range_of extent) c.args.key_scale number.scale c.from.result number.units c.saturating_pow.result c.saturating_mul-units.result c.pow.result c.clamp.result number.scaled number.bounded extent.rising extent.low_bounded extent.high_bounded
    c.from.ensures c.saturating_pow.ensures c.saturating_mul-units.ensures power c.clamp.ensures.value in
    to_z-of_z w128 c.clamp.result (record { sfits = c.clamp.type_inv }) ∙ exact
