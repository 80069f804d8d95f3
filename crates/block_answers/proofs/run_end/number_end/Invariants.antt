use Rattle.std.proofs.Common.{ℕ, ◌≡◌, ◌≤◌, ◌<◌, get_or}
use Rattle.definitions.specs.Value.{scale_of, Number}
use Rattle.columns.specs.Starts.{value_in}
use Rattle.block_answers.proofs.run_end.number_end.Given as goal

-- those so far have it
abbrev pub invariant-places : goal.invariant-places
invariant-places l =
    (at : ℕ) → l.place ≤ at → at < l.at → value_in l.numbers (get_or l.rows at 0) ≡ Number l.units (scale_of l.numbers.type)
