use Rattle.std.proofs.Common.{length, drop, ◌≡◌, FitsSigned, w64, arith}
use Rattle.std.specs.Simd.Lanes.{chunk}
use Rattle.std.proofs.lemmas.Simd.{length-chunk}
use Rattle.std.proofs.lemmas.List.Elements.{All-take, All-drop}
use Rattle.columns.proofs.LaneFlags.{word_within}
use Rattle.columns.proofs.units.eight_within.Goals as goal

pub returns : goal.returns
returns c =
    let first = c.args.first in
    let us = c.args.units.now in
    let long : length (chunk first 8 us) ≡ 8 = length-chunk first 8 us c.requires.room in
    word_within 8 c.args.low c.args.high (chunk first 8 us) long (omega arith) c.ranges.low c.ranges.high
    (All-take (FitsSigned w64) 8 (drop first us) (All-drop (FitsSigned w64) first us c.requires.ranged))
