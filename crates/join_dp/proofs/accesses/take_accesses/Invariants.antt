use Rattle.plan_space.specs.Planned.{space_in}
use Rattle.std.proofs.Common.{ℕ, ◌+◌, ◌<◌, ◌≤◌}
use Rattle.join_dp.specs.Counting.{most_accesses}
use Rattle.join_dp.specs.Searched.{LowByAccesses}
use Rattle.join_dp.specs.Searching.{cost_at, IsOpen, AreMore}
use Rattle.join_dp.specs.States.{search_of}
use Rattle.join_dp.proofs.accesses.take_accesses.Given as goal

abbrev pub invariant-tables : goal.invariant-tables
invariant-tables l = IsOpen (space_in l.space) 0 (search_of l.states) × AreMore (search_of l.fn.states) (search_of l.states)
    × ((t : ℕ) → t < l.table → LowByAccesses (space_in l.space) (cost_at (search_of l.states)) t)
    × (l.states.steps ≤ l.fn.states.steps + most_accesses (space_in l.space) l.table)
