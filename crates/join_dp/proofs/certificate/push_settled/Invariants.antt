use Rattle.std.proofs.Common.{◌≡◌, ◌++◌, map}
use Rattle.plan_tree.specs.Certificates.{state_of}
use Rattle.plan_tree.specs.Sets.{set_of}
use Rattle.join_dp.specs.Listing.{states_of}
use Rattle.join_dp.specs.StateCosts.{costs_of}
use Rattle.join_dp.proofs.certificate.push_settled.Given as goal

abbrev pub invariant-orders : goal.invariant-orders
invariant-orders l = map state_of l.settled.items ≡ map state_of l.fn.settled.items ++ states_of (costs_of l.costs) (set_of l.tables) l.order
