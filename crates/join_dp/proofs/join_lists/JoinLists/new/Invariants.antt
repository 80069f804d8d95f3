use Rattle.std.proofs.Common.{ℕ, ◌≡◌, None, length, get_or}
use Rattle.join_dp.proofs.join_lists.JoinLists.new.Given as goal

abbrev pub invariant-sets : goal.invariant-sets
invariant-sets l = ((k : ℕ) → get_or l.places.items k None ≡ None) × (length l.places.items ≡ l.counter)
