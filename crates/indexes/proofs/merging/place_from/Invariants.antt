use Rattle.std.proofs.Common.{◌-◌, ℕ, ◌≡◌, ◌<◌, ◌≤◌, false, length}
use Rattle.indexes.specs.Keys.{columns_of}
use Rattle.indexes.specs.Merging.{is_behind}
use Rattle.indexes.proofs.merging.place_from.Given as goal

abbrev pub invariant-loop-step : goal.invariant-loop-step
invariant-loop-step l = (1 ≤ l.step) × (l.fn.first ≤ l.from) × (l.from ≤ length l.rows)
    × ((i : ℕ) → l.fn.first ≤ i → i < l.from → is_behind (columns_of l.keys) l.rows l.row i ≡ false)

abbrev pub decreases-loop-step : goal.decreases-loop-step
decreases-loop-step l = length l.rows - l.from
