use Rattle.std.proofs.Common.{◌≡◌, ◌∙◌, ap, pos, get_or, to_z, of_z, w64}
use Rattle.std.specs.Int.{from_bool}
use Rattle.std.proofs.lemmas.Int.{to_z-of_z}
use Rattle.columns.proofs.LaneFlags.{lies_within}
use Rattle.columns.proofs.RestOfWords.{bit_put, rest_below}
use Rattle.columns.proofs.units.rest_within.Goals as goal

pub overflow_add-word : goal.overflow_add-word
overflow_add-word c =
    let p = lies_within (to_z w64 (of_z w64 c.args.low)) (to_z w64 (of_z w64 c.args.high)) in
    let us = c.args.units.now in
    let row = c.loop-row.row in
    let own : c.from.result ≡ from_bool (p (get_or us row (pos 0))) =
    c.from.ensures ∙ ap (λ u. from_bool (p u)) (to_z-of_z w64 (get_or us row (pos 0)) (c.requires.ranged row (pos 0) c.loop-row-test.true)) in
    let small = rest_below p us c.args.first c.requires.within c.requires.few in
    record { fits = (bit_put p us row _ c.loop-row.word c.from.result (pos 0) c.loop-row-test.true small own c.loop-row.invariant).0 }

pub loop-row-preserved : goal.loop-row-preserved
loop-row-preserved c =
    let p = lies_within (to_z w64 (of_z w64 c.args.low)) (to_z w64 (of_z w64 c.args.high)) in
    let us = c.args.units.now in
    let row = c.loop-row.row in
    let own : c.from.result ≡ from_bool (p (get_or us row (pos 0))) =
    c.from.ensures ∙ ap (λ u. from_bool (p u)) (to_z-of_z w64 (get_or us row (pos 0)) (c.requires.ranged row (pos 0) c.loop-row-test.true)) in
    let small = rest_below p us c.args.first c.requires.within c.requires.few in
    (bit_put p us row _ c.loop-row.word c.from.result (pos 0) c.loop-row-test.true small own c.loop-row.invariant).1
