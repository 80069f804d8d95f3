use Rattle.std.proofs.Common.{◌≡◌, ◌+◌, ◌*◌, ◌^◌, map, drop}
use Rattle.definitions.specs.Scanning.{word_of}
use Rattle.columns.proofs.LaneFlags.{lies_within}
use Rattle.columns.proofs.units.rest_within.Given as goal

-- the bits so far and those to come
abbrev pub invariant-loop-row : goal.invariant-loop-row
invariant-loop-row l = l.word + 2 ^ l.row * word_of (map (lies_within l.low l.high) (drop l.row l.units)) ≡ 2 ^ l.first * word_of (map (lies_within l.low l.high) (drop l.first l.units))
