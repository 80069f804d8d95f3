use Rattle.std.proofs.Common.{◌≡◌, map}
use Rattle.plan_tree.specs.Certificates.{state_of}
use Rattle.join_dp.specs.Listing.{states_up_to}
use Rattle.join_dp.specs.StateCosts.{costs_of}
use Rattle.join_dp.proofs.certificate.settled_states.Given as goal

abbrev pub invariant-sets : goal.invariant-sets
invariant-sets l = map state_of l.settled.items ≡ states_up_to (costs_of l.costs) l.place
