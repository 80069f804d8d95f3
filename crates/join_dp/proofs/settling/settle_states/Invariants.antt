use Rattle.plan_space.specs.Planned.{space_in}
use Rattle.std.proofs.Common.{ℕ, ◌≤◌}
use Rattle.join_dp.specs.Counting.{AreCounts}
use Rattle.join_dp.specs.JoinLists.{AreLists, IsListed, listed_in}
use Rattle.join_dp.specs.Searched.{IsSearched, IsNone}
use Rattle.join_dp.specs.StateCosts.{costs_of}
use Rattle.join_dp.specs.States.{search_of}
use Rattle.join_dp.proofs.Paying.{left}
use Rattle.join_dp.proofs.Spending.{spent_in}
use Rattle.join_dp.proofs.settling.settle_states.Given as goal

abbrev pub invariant-states : goal.invariant-states
invariant-states l = AreLists (space_in l.space) l.lists × ((level : ℕ) × IsSearched (space_in l.space) level IsNone (IsListed l.lists) (search_of l.states))
    × ((sorts : ℕ → ℕ) (joins : ℕ → ℕ → ℕ) → AreCounts (space_in l.space) sorts joins → l.states.steps ≤ spent_in (space_in l.space) sorts joins (costs_of l.states.costs).settled (listed_in l.lists))

abbrev pub decreases-states : goal.decreases-states
decreases-states l = left (costs_of l.states.costs)
