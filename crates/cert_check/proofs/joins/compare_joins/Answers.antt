use Rattle.std.proofs.Common.{◌≡◌, List, refl, arith}
use Rattle.std.proofs.lemmas.List.{drop_all}
use Rattle.definitions.specs.Plans.Checking.{Joins}
use Rattle.plan_space.specs.Planned.{space_in}
use Rattle.plan_tree.specs.declared.states.State.{State}
use Rattle.plan_tree.specs.Certificates.{certificate_of}
use Rattle.cert_check.specs.Checks.{IsJoinFrom}
use Rattle.cert_check.specs.Compared.{IsCompared}
use Rattle.cert_check.specs.Comparisons.{comparison_of}
use Rattle.cert_check.proofs.JoinRule.{join_begins, join_is, join_of}
use Rattle.cert_check.proofs.Listed.{next_state, FromState, AreStates, states_apart, compared_from, from_compared}
use Rattle.cert_check.proofs.Handing.{begins, item_more, item_stops, ends}
use Rattle.cert_check.proofs.joins.compare_joins.Goals as goal

pub states-init : goal.states-init
states-init g c = record {
  outer = c.relation-outer.ensures.exact;
  handed =
      begins g.L.Listener.hears (FromState c.args.certificate.now c.deref-state-items.result.now c.deref-state-items.ensures.value (space_in c.args.space.now) c.requires (IsJoinFrom (space_in c.args.space.now) (certificate_of c.args.certificate.now)) (join_begins (space_in c.args.space.now) (certificate_of c.args.certificate.now)))
      (λ (all : List State). all ≡ c.deref-state-items.result.now) c.deref-state-items.result.now _ refl;
}

pub states-preserved : goal.states-preserved
states-preserved g c =
    let space = space_in c.args.space.now in
    let code = c.args.certificate.now in
    let items = c.deref-state-items.result.now in
    let same = c.deref-state-items.ensures.value in
    let From = IsJoinFrom space (certificate_of code) in
    let starts = join_begins space (certificate_of code) in
    record {
      outer = c.relation_of-outer.ensures.exact;
      handed = item_more g.L.Listener.hears (FromState code items same space c.requires From starts) (AreStates code items same space c.requires From starts) _ _ _ _ _ c.state-item.result (next_state code items same c.state-item.result c.states.state-index c.state-item.is c.states-test.true) c.states.invariant.handed
          (λ done are. states_apart code items same space c.requires From starts done _ c.state-item.result are) c.in_default.ensures;
    }

pub returns-in-Some : goal.returns-in-Some
returns-in-Some g c =
    let space = space_in c.args.space.now in
    let code = c.args.certificate.now in
    let items = c.deref-state-items.result.now in
    let same = c.deref-state-items.ensures.value in
    let From = IsJoinFrom space (certificate_of code) in
    let starts = join_begins space (certificate_of code) in
    item_stops g.L.Listener.hears (FromState code items same space c.requires From starts) (AreStates code items same space c.requires From starts) _ _ _ _ _ c.state-item.result (next_state code items same c.state-item.result c.states.state-index c.state-item.is c.states-test.true) c.states.invariant.handed
    (λ done are. states_apart code items same space c.requires From starts done _ c.state-item.result are) (IsCompared space (certificate_of code) Joins) (comparison_of c.in-Some.last)
    (compared_from code items same space c.requires From starts Joins (λ from. join_is space (certificate_of code) from)) c.in-Some.ensures

pub returns : goal.returns
returns g c =
    let space = space_in c.args.space.now in
    let code = c.args.certificate.now in
    let items = c.deref-state-items.result.now in
    let same = c.deref-state-items.ensures.value in
    let From = IsJoinFrom space (certificate_of code) in
    let starts = join_begins space (certificate_of code) in
    ends g.L.Listener.hears (FromState code items same space c.requires From starts) (AreStates code items same space c.requires From starts) (IsCompared space (certificate_of code) Joins) _ _ _
    (drop_all c.states.state-index items (omega (arith, c.states-test.false))) c.states.invariant.handed
    (compared_from code items same space c.requires From starts Joins (λ from. join_is space (certificate_of code) from)) (from_compared code items same space c.requires From starts Joins (join_of space (certificate_of code)))
