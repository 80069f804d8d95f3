use Rattle.std.proofs.Common.{◌≡◌, ◌≤◌, ◌∙◌, ap, subst, sym, refl, arith, true}
use Rattle.definitions.specs.Plans.Cost.{limit}
use Rattle.join_dp.specs.Costs.{Costs, IsSettledAt}
use Rattle.join_dp.specs.StatePlans.{StatePlan}
use Rattle.join_dp.specs.StateCosts.{costs_of}
use Rattle.join_dp.specs.States.{search_of}
use Rattle.join_dp.proofs.NextSettled.{slotted_rest, skipped, settles, all_settled, next_from}
use Rattle.join_dp.proofs.states.States.settle_next.Goals as goal

pub waiting-init : goal.waiting-init
waiting-init c = (c.requires.slotted, λ space level v. v, refl, refl, refl)

pub at-state-requires : goal.at-state-requires
at-state-requires c = c.waiting.invariant.0.within _ _ c.in-Some.ensures.taken.was

pub is_settled-requires-clause-set : goal.is_settled-requires-clause-set
is_settled-requires-clause-set c = rw (ap (λ (x : StatePlan). x.tables) c.at-state.ensures) (c.waiting.invariant.0.sets _ _ c.in-Some.ensures.taken.was)

pub is_settled-requires-clause-order : goal.is_settled-requires-clause-order
is_settled-requires-clause-order c = rw (ap (λ (x : StatePlan). x.order) c.at-state.ensures) (c.waiting.invariant.0.orders _ _ c.in-Some.ensures.taken.was)

pub settle-requires-clause-set : goal.settle-requires-clause-set
settle-requires-clause-set c = rw (ap (λ (x : StatePlan). x.tables) c.at-state.ensures) (c.waiting.invariant.0.sets _ _ c.in-Some.ensures.taken.was)

pub settle-requires-clause-order : goal.settle-requires-clause-order
settle-requires-clause-order c = rw (ap (λ (x : StatePlan). x.order) c.at-state.ensures) (c.waiting.invariant.0.orders _ _ c.in-Some.ensures.taken.was)

pub settle-requires-clause-found : goal.settle-requires-clause-found
settle-requires-clause-found c =
    rw (ap (λ (x : StatePlan). x.tables) c.at-state.ensures, ap (λ (x : StatePlan). x.order) c.at-state.ensures) (c.waiting.invariant.0.found _ _ c.in-Some.ensures.taken.was)

pub returns-then-not-is_settled-clause-next : goal.returns-then-not-is_settled-clause-next
returns-then-not-is_settled-clause-next c = λ space level v.
    let i = c.waiting.invariant in
    let e = c.at-state.ensures in
    let off = sym (ap (λ (x : StatePlan). (costs_of c.waiting.self.costs).settled x.tables x.order) e) ∙ sym c.is_settled.ensures ∙ c.if-not-is_settled.true in
    let is = subst (λ (x : StatePlan). IsSettledAt x.tables x.order (costs_of c.waiting.self.costs) (costs_of c.settle.new.self)) e c.settle.ensures in
    next_from space level c.in-Some.place (search_of c.args.self.now) (search_of c.waiting.self) _ i.2 i.3 i.4
    (settles (search_of c.waiting.self) c.pop.new.self _ c.in-Some.place c.in-Some.ensures.taken c.in-Some.ensures.less space level (i.1 space level v) off (costs_of c.settle.new.self) is)

pub waiting-smaller : goal.waiting-smaller
waiting-smaller c = omega (arith, c.in-Some.ensures.less)

pub waiting-preserved : goal.waiting-preserved
waiting-preserved c =
    let i = c.waiting.invariant in
    let e = c.at-state.ensures in
    let here_on = sym (ap (λ (x : StatePlan). (costs_of c.waiting.self.costs).settled x.tables x.order) e) ∙ sym c.is_settled.ensures ∙ c.if-not-is_settled.false in (
      slotted_rest (search_of c.waiting.self) c.pop.new.self _ c.in-Some.place c.in-Some.ensures.taken c.in-Some.ensures.less i.0,
      λ space level v. skipped (search_of c.waiting.self) c.pop.new.self _ c.in-Some.place c.in-Some.ensures.taken c.in-Some.ensures.less space level (i.1 space level v) here_on,
      i.2,
      i.3,
      i.4,
    )

pub returns-clause-all : goal.returns-clause-all
returns-clause-all c = λ space level v t k known.
    let i = c.waiting.invariant in
    let low = subst (λ (x : Costs). x.cost t k ≤ limit) (sym i.3) known in
    subst (λ (x : Costs). x.settled t k ≡ true) i.3 (all_settled (search_of c.waiting.self) c.in_default.ensures.none space level (i.1 space level v) t k low)
