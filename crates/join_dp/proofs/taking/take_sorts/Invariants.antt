use Rattle.plan_space.specs.Planned.{space_in}
use Rattle.std.proofs.Common.{ℕ, ◌+◌, ◌≤◌, List, length}
use Rattle.plan_space.specs.InterestingOrders.Sorts.{AreSorts}
use Rattle.join_dp.specs.Searched.{sorted_from}
use Rattle.join_dp.specs.StatePlans.{at}
use Rattle.join_dp.specs.States.{search_of, states_in}
use Rattle.join_dp.proofs.Leading.{Sorted}
use Rattle.join_dp.proofs.taking.take_sorts.Given as goal

abbrev pub invariant-orders : goal.invariant-orders
invariant-orders l =
    (Sorted (space_in l.space) (at (states_in l.fn.states) l.place).tables l.cost.number (at (states_in l.fn.states) l.place).found.cost (sorted_from l.place (at (states_in l.fn.states) l.place)) (search_of l.fn.states) (search_of l.states) l.order-iterator)
    × ((orders : List ℕ) × AreSorts (space_in l.space) (at (states_in l.fn.states) l.place).tables orders × (l.states.steps + length l.order-iterator ≤ l.fn.states.steps + length orders))
