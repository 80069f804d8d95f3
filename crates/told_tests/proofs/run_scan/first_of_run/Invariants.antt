use Rattle.std.proofs.Common.{ℕ, ◌≡◌, ◌<◌, ◌+◌, get_or}
use Rattle.told_tests.proofs.run_scan.first_of_run.Given as goal

-- the rows before a place follow one another
abbrev pub invariant-rows : goal.invariant-rows
invariant-rows l = (k : ℕ) → k < l.place → get_or l.rows k 0 ≡ l.first + k
