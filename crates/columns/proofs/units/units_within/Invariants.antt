use Rattle.std.proofs.Common.{◌≡◌, ◌+◌, ◌*◌, ◌^◌, map, drop}
use Rattle.definitions.specs.Scanning.{word_of}
use Rattle.columns.proofs.LaneFlags.{lies_within}
use Rattle.columns.proofs.units.units_within.Given as goal

-- the bits so far and those to come
abbrev pub invariant-loop-chunk : goal.invariant-loop-chunk
invariant-loop-chunk l = l.word + 2 ^ (8 * l.chunk) * word_of (map (lies_within l.low l.high) (drop (8 * l.chunk) l.units)) ≡ word_of (map (lies_within l.low l.high) l.units)
