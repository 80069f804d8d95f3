use Rattle.plan_space.specs.Planned.{space_in}
use Rattle.std.proofs.Common.{◌≡◌, ◌∙◌, ap, length, arith}
use Rattle.std.proofs.lemmas.List.{length-map}
use Rattle.definitions.specs.Plans.Search.{certificate_below}
use Rattle.definitions.specs.Plans.Space.{whole}
use Rattle.plan_tree.specs.Plans.{plan_of}
use Rattle.plan_tree.specs.Certificates.{certificate_of, state_of}
use Rattle.join_dp.specs.Listing.{states_up_to}
use Rattle.join_dp.specs.StatePlans.{StatePlan, at}
use Rattle.join_dp.specs.StateCosts.{costs_of}
use Rattle.join_dp.specs.States.{search_of, states_in}
use Rattle.join_dp.proofs.Ending.{is_least, valid, exact, short, solutions, fewer_listed, few}
use Rattle.join_dp.proofs.search.optimise.Goals as goal

pub returns-clause-least : goal.returns-clause-least
returns-clause-least c =
    let space = space_in c.args.space.now in
    let s = c.in_ok-states.ensures in
    let plan = c.in_ok-plan.ensures space s.complete s.end.searched.is_open.made in
    let cost = ap (λ (x : StatePlan). x.found.cost) c.at-target.ensures in
    is_least space s.complete c.in_ok-states.place (search_of c.in_ok-states.states) s.end (plan_of c.in_ok-plan.plan) plan (certificate_of c.in_ok-certificate.certificate)
    (c.in_ok-certificate.ensures ∙ ap (certificate_below c.at-target.result.found.cost.number) c.in_ok-settled.ensures ∙ ap (λ n. certificate_below n (states_up_to (costs_of c.in_ok-states.states.costs) (whole space))) cost)

pub returns-clause-valid : goal.returns-clause-valid
returns-clause-valid c =
    let space = space_in c.args.space.now in
    let s = c.in_ok-states.ensures in
    let plan = c.in_ok-plan.ensures space s.complete s.end.searched.is_open.made in
    let cost = ap (λ (x : StatePlan). x.found.cost) c.at-target.ensures in
    valid space s.complete c.in_ok-states.place (search_of c.in_ok-states.states) s.end (plan_of c.in_ok-plan.plan) plan (certificate_of c.in_ok-certificate.certificate)
    (c.in_ok-certificate.ensures ∙ ap (certificate_below c.at-target.result.found.cost.number) c.in_ok-settled.ensures ∙ ap (λ n. certificate_below n (states_up_to (costs_of c.in_ok-states.states.costs) (whole space))) cost)

pub returns-clause-exact : goal.returns-clause-exact
returns-clause-exact c =
    let space = space_in c.args.space.now in
    let s = c.in_ok-states.ensures in
    let plan = c.in_ok-plan.ensures space s.complete s.end.searched.is_open.made in
    let cost = ap (λ (x : StatePlan). x.found.cost) c.at-target.ensures in
    exact space s.complete c.in_ok-states.place (search_of c.in_ok-states.states) s.end (plan_of c.in_ok-plan.plan) plan (certificate_of c.in_ok-certificate.certificate)
    (c.in_ok-certificate.ensures ∙ ap (certificate_below c.at-target.result.found.cost.number) c.in_ok-settled.ensures ∙ ap (λ n. certificate_below n (states_up_to (costs_of c.in_ok-states.states.costs) (whole space))) cost)

pub returns-clause-short : goal.returns-clause-short
returns-clause-short c =
    let space = space_in c.args.space.now in
    let s = c.in_ok-states.ensures in
    short space s.complete c.in_ok-states.place (search_of c.in_ok-states.states) s.end (plan_of c.in_ok-plan.plan) (c.in_ok-plan.ensures space s.complete s.end.searched.is_open.made) s.few

pub returns-clause-solutions : goal.returns-clause-solutions
returns-clause-solutions c =
    let space = space_in c.args.space.now in
    let s = c.in_ok-states.ensures in
    let items = c.in_ok-settled.settled in
    let size : length (states_up_to (costs_of c.in_ok-states.states.costs) (whole space)) ≡ c.len.result =
    omega (arith, c.len.ensures, length-map items.items state_of, ap length c.in_ok-settled.ensures, items.small, items.ok.0, items.ok.1) in
    solutions space s.complete c.in_ok-states.place (search_of c.in_ok-states.states) s.end (plan_of c.in_ok-plan.plan) (c.in_ok-plan.ensures space s.complete s.end.searched.is_open.made) c.len.result size

pub returns-clause-listed : goal.returns-clause-listed
returns-clause-listed c =
    let space = space_in c.args.space.now in
    let s = c.in_ok-states.ensures in
    let plan = c.in_ok-plan.ensures space s.complete s.end.searched.is_open.made in
    let cost = ap (λ (x : StatePlan). x.found.cost) c.at-target.ensures in
    let items = c.in_ok-settled.settled in
    let less = fewer_listed space s.complete c.in_ok-states.place (search_of c.in_ok-states.states) s.end (plan_of c.in_ok-plan.plan) plan (certificate_of c.in_ok-certificate.certificate)
    (c.in_ok-certificate.ensures ∙ ap (certificate_below c.at-target.result.found.cost.number) c.in_ok-settled.ensures ∙ ap (λ n. certificate_below n (states_up_to (costs_of c.in_ok-states.states.costs) (whole space))) cost) in
    omega (arith, less, c.len.ensures, length-map items.items state_of, ap length c.in_ok-settled.ensures, items.small, items.ok.0, items.ok.1)

pub returns-clause-solved : goal.returns-clause-solved
returns-clause-solved c =
    let space = space_in c.args.space.now in
    let s = c.in_ok-states.ensures in
    let items = c.in_ok-settled.settled in
    let le = few space s.complete (at (states_in c.in_ok-states.states) c.in_ok-states.place).found.cost (search_of c.in_ok-states.states) s.end.searched.is_open in
    omega (arith, le, c.len.ensures, length-map items.items state_of, ap length c.in_ok-settled.ensures, items.small, items.ok.0, items.ok.1)
