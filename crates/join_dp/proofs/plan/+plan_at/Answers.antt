use Rattle.std.proofs.Common.{◌≡◌, ◌∙◌, ap, sym, subst}
use Rattle.std.proofs.lemmas.Result.{IfOk-weaker}
use Rattle.definitions.specs.Plans.Plan.{Access}
use Rattle.plan_tree.specs.Plans.{path_of, plan_of}
use Rattle.plan_tree.specs.declared.plan.Plan.{Plan as Code}
use Rattle.plan_tree.proofs.Views.{of_access, of_sort}
use Rattle.join_dp.specs.Planned.{IsPlanAt}
use Rattle.join_dp.specs.StatePlans.{StatePlan}
use Rattle.join_dp.specs.States.{states_in}
use Rattle.join_dp.specs.Steps.{joined}
use Rattle.join_dp.specs.Views.{join_of, step_of}
use Rattle.join_dp.proofs.Planning.{access_plan, join_plan, sort_plan}
use Rattle.join_dp.proofs.plan.+plan_at.Goals as goal

pub returns-in_ok-copy_path-in-Access : goal.returns-in_ok-copy_path-in-Access
returns-in_ok-copy_path-in-Access t c = λ space complete made.
    let is = sym (ap (λ (s : StatePlan). s.found.step) c.at.ensures) ∙ ap step_of c.in-Access.is in
    let plan = access_plan space complete (states_in c.args.states.now) c.args.place (path_of c.in-Access.path.now) is (made c.args.place c.requires.place) in
    let copy = subst (λ p. IsPlanAt space (states_in c.args.states.now) c.args.place (Access p)) (sym c.in_ok-copy_path-in-Access.ensures) plan in
    subst (IsPlanAt space (states_in c.args.states.now) c.args.place) (sym (of_access c.in_ok-copy_path-in-Access.field-0)) copy

pub returns-in_ok-outer-in-Join : goal.returns-in_ok-outer-in-Join
returns-in_ok-outer-in-Join t c = λ space complete made.
    let is = sym (ap (λ (s : StatePlan). s.found.step) c.at.ensures) ∙ ap step_of c.in-Join.is in
    let before = subst (λ p. IsPlanAt space (states_in c.args.states.now) c.in-Join.from (plan_of p)) (sym c.in_ok-outer-in-Join.ensures.ok) (c.in_ok-plan_at-in-Join.ensures space complete made) in
    let plan = join_plan space complete (states_in c.args.states.now) c.args.place c.in-Join.from (join_of c.in-Join.join) (plan_of c.in_ok-outer-in-Join.outer.value) is (made c.args.place c.requires.place) before in
    IfOk-weaker c.joined_plan.result (λ (q : Code). plan_of q ≡ joined (plan_of c.in_ok-outer-in-Join.outer.value) (join_of c.in-Join.join)) (λ (q : Code). IsPlanAt space (states_in c.args.states.now) c.args.place (plan_of q))
    (λ q e. subst (IsPlanAt space (states_in c.args.states.now) c.args.place) (sym e) plan) c.joined_plan.ensures

pub returns-in_ok-input-in-Sort : goal.returns-in_ok-input-in-Sort
returns-in_ok-input-in-Sort t c = λ space complete made.
    let is = sym (ap (λ (s : StatePlan). s.found.step) c.at.ensures) ∙ ap step_of c.in-Sort.is in
    let before = subst (λ p. IsPlanAt space (states_in c.args.states.now) c.in-Sort.from (plan_of p)) (sym c.in_ok-input-in-Sort.ensures.ok) (c.in_ok-plan_at-in-Sort.ensures space complete made) in
    let plan = sort_plan space complete (states_in c.args.states.now) c.args.place c.in-Sort.from c.in-Sort.order (plan_of c.in_ok-input-in-Sort.input.value) is (made c.args.place c.requires.place) before in
    subst (IsPlanAt space (states_in c.args.states.now) c.args.place) (sym (of_sort c.in_ok-input-in-Sort.input c.in-Sort.order)) plan
