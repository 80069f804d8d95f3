use Rattle.std.proofs.Common.{refl}
use Rattle.definitions.specs.Plans.Search.{certificate_below}
use Rattle.definitions.specs.Plans.Space.{whole}
use Rattle.plan_tree.specs.Plans.{plan_of}
use Rattle.plan_space.specs.Planned.{space_in}
use Rattle.join_dp.specs.Listing.{states_up_to}
use Rattle.join_dp.specs.StatePlans.{at}
use Rattle.join_dp.specs.StateCosts.{costs_of}
use Rattle.join_dp.specs.States.{search_of, states_in}
use Rattle.join_dp.proofs.Ending.{is_least, valid, exact}
use Rattle.join_dp.proofs.search.least_plan.Goals as goal

pub returns : goal.returns
returns c =
    let space = space_in c.args.space.now in
    let s = c.in_ok-states.ensures in
    let states = c.in_ok-states.states in
    let place = c.in_ok-states.place in
    let plan = c.in_ok-plan.ensures space s.complete s.end.searched.is_open.made in
    let certificate = certificate_below (at (states_in states) place).found.cost (states_up_to (costs_of states.costs) (whole space)) in (
      certificate,
      (
        valid space s.complete place (search_of states) s.end (plan_of c.in_ok-plan.plan) plan certificate refl,
        exact space s.complete place (search_of states) s.end (plan_of c.in_ok-plan.plan) plan certificate refl,
        is_least space s.complete place (search_of states) s.end (plan_of c.in_ok-plan.plan) plan certificate refl,
      ),
    )
