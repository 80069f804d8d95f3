use Rattle.std.proofs.Common.{◌≡◌, ℕ, ◌<◌, map}
use Rattle.query_tree.specs.Bound.{column_of}
use Rattle.interesting_orders.specs.Labels.{column_at}
use Rattle.interesting_orders.proofs.places.place_of.Given as goal

abbrev pub invariant-columns : goal.invariant-columns
invariant-columns l = (i : ℕ) → i < l.place → column_at (map column_of l.columns) i ≡ column_of l.column → ⊥
