use Rattle.std.proofs.Common.{◌≡◌, ◌≤◌, ◌+◌, ◌∙◌, [], ◌∷◌, ◌++◌, length, map, ap, arith}
use Rattle.std.proofs.lemmas.List.{length-map, map-append}
use Rattle.plan_tree.specs.Sets.{set_of}
use Rattle.join_dp.specs.StateCosts.{costs_of}
use Rattle.join_dp.specs.States.{search_of, states_in, state_plan_of}
use Rattle.join_dp.specs.Views.{candidate_of}
use Rattle.join_dp.proofs.Offering.{stepped_open, offered_open, offered_more, pushed_steps}
use Rattle.join_dp.proofs.states.States.offer.Goals as goal

pub returns-in_ok-push-2-clause-is_open : goal.returns-in_ok-push-2-clause-is_open
returns-in_ok-push-2-clause-is_open c = λ space level o.
    let s = search_of c.args.self.now in
    let states : map state_plan_of c.push-then-found-cost.new.self.items ≡ states_in c.args.self.now ++ _ ∷ [] = ap (map state_plan_of) c.in_ok-push-2.ensures.items ∙ map-append state_plan_of c.args.self.now.plans.items (_ ∷ []) in
    let place : c.len.result ≡ length (states_in c.args.self.now) = omega (arith, c.len.ensures, length-map c.args.self.now.plans.items state_plan_of, c.args.self.now.plans.small, c.args.self.now.plans.ok.0, c.args.self.now.plans.ok.1) in
    let put = rw place at c.in_ok-push.ensures.put in
    let v = c.push-then-found-cost.new.self in
    let stepped = o.is_open.stepped in
    let steps : length (states_in c.args.self.now) + 1 ≤ c.saturating_add-self.result = pushed_steps (states_in c.args.self.now) _ c.args.self.now.steps c.saturating_add-self.result _ (ap length states)
    (omega (arith, length-map v.items state_plan_of, v.small, v.ok.0, v.ok.1)) stepped c.saturating_add-self.ensures in
    rw states (offered_open space level s (set_of c.args.tables) c.args.order (candidate_of c.args.found) o (rw c.cost.ensures at c.if-found-cost.true) (costs_of c.find.new.self) c.in_ok-find.ensures c.push.new.self put c.in_ok-push.ensures.more c.saturating_add-self.result steps)

pub returns-in_ok-push-2-clause-more : goal.returns-in_ok-push-2-clause-more
returns-in_ok-push-2-clause-more c = λ space level o.
    let s = search_of c.args.self.now in
    let states : map state_plan_of c.push-then-found-cost.new.self.items ≡ states_in c.args.self.now ++ _ ∷ [] = ap (map state_plan_of) c.in_ok-push-2.ensures.items ∙ map-append state_plan_of c.args.self.now.plans.items (_ ∷ []) in
    let place : c.len.result ≡ length (states_in c.args.self.now) = omega (arith, c.len.ensures, length-map c.args.self.now.plans.items state_plan_of, c.args.self.now.plans.small, c.args.self.now.plans.ok.0, c.args.self.now.plans.ok.1) in
    let put = rw place at c.in_ok-push.ensures.put in
    let v = c.push-then-found-cost.new.self in
    let stepped = o.is_open.stepped in
    let steps : length (states_in c.args.self.now) + 1 ≤ c.saturating_add-self.result = pushed_steps (states_in c.args.self.now) _ c.args.self.now.steps c.saturating_add-self.result _ (ap length states)
    (omega (arith, length-map v.items state_plan_of, v.small, v.ok.0, v.ok.1)) stepped c.saturating_add-self.ensures in
    rw states (offered_more space level s (set_of c.args.tables) c.args.order (candidate_of c.args.found) o (rw c.cost.ensures at c.if-found-cost.true) (costs_of c.find.new.self) c.in_ok-find.ensures c.push.new.self put c.in_ok-push.ensures.more c.saturating_add-self.result steps)

pub returns-else-found-cost-clause-is_open : goal.returns-else-found-cost-clause-is_open
returns-else-found-cost-clause-is_open c = λ space level o.
    let stepped = o.is_open.stepped in
    let few : length (states_in c.args.self.now) ≤ 18446744073709551615 = omega (arith, length-map c.args.self.now.plans.items state_plan_of, c.args.self.now.plans.small, c.args.self.now.plans.ok.0, c.args.self.now.plans.ok.1) in
    stepped_open space level (search_of c.args.self.now) c.saturating_add-self.result (omega (arith, stepped, few, c.saturating_add-self.ensures)) o.is_open
