use Rattle.std.proofs.Common.{ℕ, ◌≡◌, None, length, get_or}
use Rattle.join_dp.proofs.state_costs.StateCosts.new.Given as goal

abbrev pub invariant-sets : goal.invariant-sets
invariant-sets l = ((k : ℕ) → get_or l.rows.items k None ≡ None) × (length l.rows.items ≡ l.counter)
