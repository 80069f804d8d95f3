use Rattle.std.proofs.Common.{ℕ, ◌≡◌, ◌≤◌, ◌<◌, ◌-◌, false}
use Rattle.columns.specs.Starts.{starts, value_in}
use Rattle.indexes.proofs.key_column.KeyColumn.first_near.Given as goal

abbrev pub invariant-loop-step : goal.invariant-loop-step
invariant-loop-step l = (1 ≤ l.step) × (l.fn.within.from ≤ l.from) × (l.from ≤ l.fn.within.to)
    × ((i : ℕ) → l.fn.within.from ≤ i → i < l.from → starts l.start (value_in l.self i) ≡ false)

abbrev pub decreases-loop-step : goal.decreases-loop-step
decreases-loop-step l = l.fn.within.to - l.from
