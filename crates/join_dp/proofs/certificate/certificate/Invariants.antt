use Rattle.std.proofs.Common.{◌≡◌, ◌++◌, map, drop, nat_lt}
use Rattle.std.specs.Prelude.{filter}
use Rattle.definitions.specs.Plans.Certificate.{StateCost}
use Rattle.plan_tree.specs.Certificates.{state_of}
use Rattle.join_dp.proofs.certificate.certificate.Given as goal

abbrev pub invariant-states : goal.invariant-states
invariant-states l = map state_of l.kept.items ++ filter (λ (state : StateCost). nat_lt state.cost l.target) (map state_of (drop l.state-index l.state-items)) ≡ filter (λ (state : StateCost). nat_lt state.cost l.target) (map state_of l.states.items)
