use Rattle.plan_space.specs.Planned.{space_in}
use Rattle.std.proofs.Common.{◌≡◌, ◌∙◌, map, ap, subst, arith}
use Rattle.definitions.specs.Plans.Space.{whole}
use Rattle.plan_tree.specs.Certificates.{state_of}
use Rattle.plan_tree.specs.Sets.{set_of}
use Rattle.join_dp.specs.Listing.{states_up_to}
use Rattle.join_dp.specs.StateCosts.{costs_of}
use Rattle.join_dp.proofs.SettledStates.{set_added}
use Rattle.join_dp.proofs.certificate.settled_states.Goals as goal

pub sets-init : goal.sets-init
sets-init c = ap (map state_of) c.new-settled.ensures.items

pub sets-preserved : goal.sets-preserved
sets-preserved c =
    set_added (costs_of c.args.costs.now) c.sets.place (map state_of c.sets.settled.items) (map state_of c.push_settled.new.settled.items) (set_of c.at.result) c.at.ensures c.in_ok-push_settled.ensures c.sets.invariant

pub returns : goal.returns
returns c =
    let e : c.sets.place ≡ whole (space_in c.args.space.now) = omega (arith, c.sets-test.false, c.sets.auto.place-end, c.place-end.ensures.exact ∙ c.whole.ensures) in
    subst (λ n. map state_of c.sets.settled.items ≡ states_up_to (costs_of c.args.costs.now) n) e c.sets.invariant
