use Rattle.std.proofs.Common.{◌≡◌, ◌≤◌, ◌<◌, ◌-◌, ◌^◌, ◌++◌, take, length}
use Rattle.std.specs.Prelude.{All}
use Rattle.filters.specs.Words.{rows_in_word}
use Rattle.told_tests.proofs.run_scan.write_places.Given as goal

-- the places so far and those of the bits that are left
abbrev pub invariant-bits : goal.invariant-bits
invariant-bits l = record {
  taken : take l.from l.fn.places ++ rows_in_word l.word l.first ≡ take l.count l.places ++ rows_in_word l.left l.lowest;
  small : All (λ place. place < 2 ^ 32) (rows_in_word l.left l.lowest);
  within : l.count ≤ length l.places;
  room : length l.places ≡ length l.fn.places;
}

abbrev pub decreases-bits : goal.decreases-bits
decreases-bits l = length l.places - l.count
