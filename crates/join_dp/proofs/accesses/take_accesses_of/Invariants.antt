use Rattle.plan_space.specs.Planned.{space_in}
use Rattle.std.proofs.Common.{◌+◌, ◌≤◌, length}
use Rattle.join_dp.specs.States.{search_of}
use Rattle.join_dp.proofs.Leading.{Accessed}
use Rattle.join_dp.proofs.accesses.take_accesses_of.Given as goal

abbrev pub invariant-paths : goal.invariant-paths
invariant-paths l = (Accessed (space_in l.space) l.table (search_of l.fn.states) (search_of l.states) l.item-iterator)
    × (l.states.steps + length l.item-iterator ≤ l.fn.states.steps + length ((space_in l.space).paths 0 l.table))
