use Rattle.std.proofs.Common.{ℕ, ◌≡◌, length}
use Rattle.definitions.specs.Plans.Space.{Space}
use Rattle.join_dp.specs.Searching.{IsOpen, AreSlotted}
use Rattle.join_dp.specs.StateCosts.{costs_of}
use Rattle.join_dp.specs.States.{search_of, states_in}
use Rattle.join_dp.proofs.states.States.settle_next.Given as goal

abbrev pub invariant-waiting : goal.invariant-waiting
invariant-waiting l = AreSlotted (search_of l.self) × ((space : Space) (level : ℕ) → IsOpen space level (search_of l.fn.self) → IsOpen space level (search_of l.self))
    × (states_in l.self ≡ states_in l.fn.self) × (costs_of l.self.costs ≡ costs_of l.fn.self.costs) × (l.self.steps ≡ l.fn.self.steps)

abbrev pub decreases-waiting : goal.decreases-waiting
decreases-waiting l = length l.self.frontier
