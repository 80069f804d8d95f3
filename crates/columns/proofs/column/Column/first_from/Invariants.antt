use Rattle.std.proofs.Common.{◌-◌, ℕ, ◌≡◌, ◌<◌, ◌≤◌, true, false}
use Rattle.columns.specs.Columns.{cells_of}
use Rattle.columns.specs.Starts.{starts, value_in}
use Rattle.columns.proofs.column.Column.first_from.Given as goal

abbrev pub invariant-loop-low : goal.invariant-loop-low
invariant-loop-low l = (l.fn.first ≤ l.low) × (l.low ≤ l.high) × (l.high ≤ l.fn.end)
    × ((i : ℕ) → l.fn.first ≤ i → i < l.low → starts l.start (value_in (cells_of l.self) i) ≡ false)
    × ((i : ℕ) → l.high ≤ i → i < l.fn.end → starts l.start (value_in (cells_of l.self) i) ≡ true)

abbrev pub decreases-loop-low : goal.decreases-loop-low
decreases-loop-low l = l.high - l.low
