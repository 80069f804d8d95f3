use Rattle.std.proofs.Common.{◌-◌, ℕ, ◌≡◌, ◌<◌, ◌≤◌, true, false}
use Rattle.indexes.specs.Keys.{columns_of}
use Rattle.indexes.specs.Merging.{is_behind}
use Rattle.indexes.proofs.merging.place_between.Given as goal

abbrev pub invariant-loop-low : goal.invariant-loop-low
invariant-loop-low l = (l.fn.first ≤ l.low) × (l.low ≤ l.high) × (l.high ≤ l.fn.end)
    × ((i : ℕ) → l.fn.first ≤ i → i < l.low → is_behind (columns_of l.keys) l.rows l.row i ≡ false)
    × ((i : ℕ) → l.high ≤ i → i < l.fn.end → is_behind (columns_of l.keys) l.rows l.row i ≡ true)

abbrev pub decreases-loop-low : goal.decreases-loop-low
decreases-loop-low l = l.high - l.low
