use Rattle.std.proofs.Common.{◌∙◌, ap₂, ◌+◌, ◌*◌, ◌/◌, length, map, to_z, of_z, w64, arith}
use Rattle.std.proofs.lemmas.Int.{to_z-of_z}
use Rattle.definitions.specs.Scanning.{word_of}
use Rattle.columns.proofs.LaneFlags.{lies_within}
use Rattle.columns.proofs.RestOfWords.{bits_put, bits_ended, word_below}
use Rattle.columns.proofs.units.units_within.Goals as goal

pub overflow_add-word : goal.overflow_add-word
overflow_add-word c =
    let p = lies_within (to_z w64 (of_z w64 c.args.low)) (to_z w64 (of_z w64 c.args.high)) in
    let us = c.args.units.now in
    let at = 8 * c.loop-chunk.chunk in
    record { fits = (bits_put p us at 8 (8 * (c.loop-chunk.chunk + 1)) _ c.loop-chunk.word c.eight_within.result (omega arith) (omega arith) (word_below p us c.requires.few) c.eight_within.ensures c.loop-chunk.invariant).0 }

pub loop-chunk-preserved : goal.loop-chunk-preserved
loop-chunk-preserved c =
    let p = lies_within (to_z w64 (of_z w64 c.args.low)) (to_z w64 (of_z w64 c.args.high)) in
    let us = c.args.units.now in
    let at = 8 * c.loop-chunk.chunk in
    (bits_put p us at 8 (8 * (c.loop-chunk.chunk + 1)) _ c.loop-chunk.word c.eight_within.result (omega arith) (omega arith) (word_below p us c.requires.few) c.eight_within.ensures c.loop-chunk.invariant).1

pub overflow_add-result : goal.overflow_add-result
overflow_add-result c =
    let p = lies_within (to_z w64 (of_z w64 c.args.low)) (to_z w64 (of_z w64 c.args.high)) in
    let us = c.args.units.now in
    let whole = bits_ended p us (8 * c.loop-chunk.chunk) (8 * (length us / 8)) _ c.loop-chunk.word c.rest_within.result (omega arith) c.rest_within.ensures c.loop-chunk.invariant in
    record { fits = omega (arith, whole, word_below p us c.requires.few) }

pub returns : goal.returns
returns c =
    let p = lies_within (to_z w64 (of_z w64 c.args.low)) (to_z w64 (of_z w64 c.args.high)) in
    let us = c.args.units.now in
    bits_ended p us (8 * c.loop-chunk.chunk) (8 * (length us / 8)) _ c.loop-chunk.word c.rest_within.result (omega arith) c.rest_within.ensures c.loop-chunk.invariant
    ∙ ap₂ (λ low high. word_of (map (lies_within low high) us)) (to_z-of_z w64 c.args.low c.ranges.low) (to_z-of_z w64 c.args.high c.ranges.high)
