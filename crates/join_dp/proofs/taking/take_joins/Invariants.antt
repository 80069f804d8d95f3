use Rattle.plan_space.specs.Planned.{space_in}
use Rattle.std.proofs.Common.{◌+◌, ◌≤◌}
use Rattle.join_dp.specs.JoinLists.{joins_in}
use Rattle.join_dp.specs.StatePlans.{at}
use Rattle.join_dp.specs.States.{search_of, states_in}
use Rattle.join_dp.proofs.Joined.{Joined}
use Rattle.join_dp.proofs.taking.take_joins.Given as goal

abbrev pub invariant-joins : goal.invariant-joins
invariant-joins l = (Joined (space_in l.space) (joins_in l.lists) (at (states_in l.fn.states) l.place) l.fn.places.start (search_of l.fn.states) (search_of l.states) l.number)
    × (l.states.steps + l.fn.places.start ≤ l.fn.states.steps + l.number)
