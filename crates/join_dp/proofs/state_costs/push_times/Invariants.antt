use Rattle.join_dp.specs.Slots.{AreBehind}
use Rattle.join_dp.proofs.state_costs.push_times.Given as goal

abbrev pub invariant-items : goal.invariant-items
invariant-items g l = AreBehind l.item l.fn.items.items l.items.items l.counter
