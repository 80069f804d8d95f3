-- The costs that this crate keeps.
use Rattle.join_dp.specs.Costs.{Costs}
use Rattle.join_dp.specs.Slots.{costs_in}
use Rattle.join_dp.specs.declared.state_costs.StateCosts.{StateCosts}

abbrev pub costs_of : StateCosts → Costs
costs_of s = costs_in s.orders s.rows.items s.costs.items s.settled.items
