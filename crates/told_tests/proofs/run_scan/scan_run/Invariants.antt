use Rattle.std.proofs.Common.{◌≡◌, ◌≤◌, ◌+◌, ◌-◌, take, length, filter}
use Rattle.std.specs.List.{range_with_len}
use Rattle.told_tests.specs.RunScans.{is_met_in}
use Rattle.told_tests.proofs.run_scan.scan_run.Given as goal

-- the places of the first rows on which it is true are written
abbrev pub invariant-words : goal.invariant-words
invariant-words l = record {
  places : take l.written l.places ≡ filter (λ place. is_met_in l.source l.column l.op l.number (l.first + place)) (range_with_len 0 l.done);
  few : l.written ≤ l.done;
  within : l.done ≤ l.count;
  room : length l.places ≡ 1024;
}

abbrev pub decreases-words : goal.decreases-words
decreases-words l = l.count - l.done
