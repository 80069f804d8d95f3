use Rattle.std.proofs.Common.{◌≡◌, take}
use Rattle.std.specs.List.{range_with_len}
use Rattle.indexes.proofs.counting.are_in_place.Given as goal

-- the rows so far are in place
abbrev pub invariant-loop-place : goal.invariant-loop-place
invariant-loop-place l = take l.place l.rows ≡ range_with_len 0 l.place
