-- What the states of this crate stand for.
use Rattle.std.specs.Prelude.{List, map}
use Rattle.plan_tree.specs.Sets.{set_of}
use Rattle.join_dp.specs.Searching.{Search}
use Rattle.join_dp.specs.StatePlans as spec
use Rattle.join_dp.specs.StateCosts.{costs_of}
use Rattle.join_dp.specs.Views.{candidate_of}
use Rattle.join_dp.specs.declared.states.StatePlan.{StatePlan}
use Rattle.join_dp.specs.declared.states.States.{States}

abbrev pub state_plan_of : StatePlan → spec.StatePlan
state_plan_of s = record { tables = set_of s.tables; order = s.order; found = candidate_of s.found }

abbrev pub states_in : States → List spec.StatePlan
states_in s = map state_plan_of s.plans.items

abbrev pub search_of : States → Search
search_of s = record { states = states_in s; costs = costs_of s.costs; waiting = s.frontier; steps = s.steps }
