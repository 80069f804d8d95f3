use Rattle.std.proofs.Common.{List, ◌≡◌, drop}
use Rattle.plan_space.specs.Planned.{space_in}
use Rattle.plan_space.specs.Relation.{IsRelation}
use Rattle.plan_tree.specs.declared.states.State.{State}
use Rattle.plan_tree.specs.Certificates.{state_of, certificate_of}
use Rattle.cert_check.specs.Checks.{IsJoinFrom}
use Rattle.cert_check.specs.Compared.{Compared}
use Rattle.cert_check.proofs.Handing.{Handed}
use Rattle.cert_check.proofs.joins.compare_joins.Given as goal

abbrev pub invariant-states : goal.invariant-states
invariant-states g l = record {
  outer : IsRelation (space_in l.space) l.outer;
  handed : Handed g.L.Listener.hears (λ (s : State) (x : Compared). IsJoinFrom (space_in l.space) (certificate_of l.certificate) (state_of s) x) (λ (all : List State). all ≡ l.state-items) l.fn.listener (drop l.state-index l.state-items) l.listener;
}
