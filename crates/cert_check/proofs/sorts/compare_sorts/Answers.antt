use Rattle.std.proofs.Common.{◌≡◌, List, refl, arith}
use Rattle.std.proofs.lemmas.List.{drop_all}
use Rattle.definitions.specs.Plans.Checking.{Sorts}
use Rattle.plan_space.specs.Planned.{space_in}
use Rattle.plan_tree.specs.declared.states.State.{State}
use Rattle.plan_tree.specs.Certificates.{certificate_of}
use Rattle.cert_check.specs.Checks.{IsSortFrom}
use Rattle.cert_check.specs.Compared.{IsCompared}
use Rattle.cert_check.specs.Comparisons.{comparison_of}
use Rattle.cert_check.proofs.SortRule.{sort_begins, sort_is, sort_of}
use Rattle.cert_check.proofs.Listed.{there_at, next_state, listed_set, FromState, AreStates, states_apart, compared_from, from_compared}
use Rattle.cert_check.proofs.Handing.{begins, item_more, item_stops, ends}
use Rattle.cert_check.proofs.sorts.compare_sorts.Goals as goal

pub states-init : goal.states-init
states-init g c =
    begins g.L.Listener.hears (FromState c.args.certificate.now c.deref-state-items.result.now c.deref-state-items.ensures.value (space_in c.args.space.now) c.requires (IsSortFrom (space_in c.args.space.now) (certificate_of c.args.certificate.now)) (sort_begins (space_in c.args.space.now) (certificate_of c.args.certificate.now)))
    (λ (all : List State). all ≡ c.deref-state-items.result.now) c.deref-state-items.result.now _ refl

pub compare_sorts_from-requires-clause-set : goal.compare_sorts_from-requires-clause-set
compare_sorts_from-requires-clause-set g c =
    let code = c.args.certificate.now in
    let items = c.deref-state-items.result.now in
    let same = c.deref-state-items.ensures.value in
    listed_set code items same (space_in c.args.space.now) c.requires c.state-item.result (there_at code items same c.state-item.result c.states.state-index c.state-item.is c.states-test.true)

pub states-preserved : goal.states-preserved
states-preserved g c =
    let space = space_in c.args.space.now in
    let code = c.args.certificate.now in
    let items = c.deref-state-items.result.now in
    let same = c.deref-state-items.ensures.value in
    let From = IsSortFrom space (certificate_of code) in
    let starts = sort_begins space (certificate_of code) in
    item_more g.L.Listener.hears (FromState code items same space c.requires From starts) (AreStates code items same space c.requires From starts) _ _ _ _ _ c.state-item.result (next_state code items same c.state-item.result c.states.state-index c.state-item.is c.states-test.true) c.states.invariant
    (λ done are. states_apart code items same space c.requires From starts done _ c.state-item.result are) c.in_default.ensures

pub returns-in-Some : goal.returns-in-Some
returns-in-Some g c =
    let space = space_in c.args.space.now in
    let code = c.args.certificate.now in
    let items = c.deref-state-items.result.now in
    let same = c.deref-state-items.ensures.value in
    let From = IsSortFrom space (certificate_of code) in
    let starts = sort_begins space (certificate_of code) in
    item_stops g.L.Listener.hears (FromState code items same space c.requires From starts) (AreStates code items same space c.requires From starts) _ _ _ _ _ c.state-item.result (next_state code items same c.state-item.result c.states.state-index c.state-item.is c.states-test.true) c.states.invariant
    (λ done are. states_apart code items same space c.requires From starts done _ c.state-item.result are) (IsCompared space (certificate_of code) Sorts) (comparison_of c.in-Some.last)
    (compared_from code items same space c.requires From starts Sorts (λ from. sort_is space (certificate_of code) from)) c.in-Some.ensures

pub returns : goal.returns
returns g c =
    let space = space_in c.args.space.now in
    let code = c.args.certificate.now in
    let items = c.deref-state-items.result.now in
    let same = c.deref-state-items.ensures.value in
    let From = IsSortFrom space (certificate_of code) in
    let starts = sort_begins space (certificate_of code) in
    ends g.L.Listener.hears (FromState code items same space c.requires From starts) (AreStates code items same space c.requires From starts) (IsCompared space (certificate_of code) Sorts) _ _ _
    (drop_all c.states.state-index items (omega (arith, c.states-test.false))) c.states.invariant
    (compared_from code items same space c.requires From starts Sorts (λ from. sort_is space (certificate_of code) from)) (from_compared code items same space c.requires From starts Sorts (sort_of space (certificate_of code)))
