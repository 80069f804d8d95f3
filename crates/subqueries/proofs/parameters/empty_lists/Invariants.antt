use Rattle.std.proofs.Common.{◌≡◌, ℕ, [], length}
use Rattle.subqueries.specs.OuterColumns.{parameters_at}
use Rattle.subqueries.proofs.parameters.empty_lists.Given as goal

abbrev pub invariant-lists : goal.invariant-lists
invariant-lists l = record {
  count : length l.all.items ≡ l._number;
  empty : (k : ℕ) → parameters_at l.all.items k ≡ [];
}
