use Rattle.std.proofs.Common.{◌++◌, map, drop}
use Rattle.definitions.specs.Plans.Certificate.{IsCertificate}
use Rattle.plan_tree.specs.Certificates.{state_of}
use Rattle.cert_check.specs.Planned.{space_in}
use Rattle.planned_queries.proofs.listening.leading_part.Given as goal

-- what is kept, and what is still to be looked at
abbrev pub invariant-states : goal.invariant-states
invariant-states l = IsCertificate (space_in l.planned.own.space) (record { target = l.planned.certificate.target; states = map state_of l.states.items ++ map state_of (drop l.state-index l.state-items) })
