use Rattle.plan_space.specs.Planned.{space_in}
use Rattle.std.proofs.Common.{◌∙◌, arith}
use Rattle.plan_space.proofs.Deciding.{holds, fails}
use Rattle.join_dp.specs.JoinLists.{IsListed, listed_in}
use Rattle.join_dp.specs.StatePlans.{at}
use Rattle.join_dp.specs.StateCosts.{costs_of}
use Rattle.join_dp.specs.States.{search_of, states_in}
use Rattle.join_dp.proofs.Ending.{some_waits}
use Rattle.join_dp.proofs.JoinsListed.{listed_one}
use Rattle.join_dp.proofs.Known.{begun, settled_next, ended, open_new}
use Rattle.join_dp.proofs.NextSettled.{slotted}
use Rattle.join_dp.proofs.Paying.{fewer_left, still_paid, paid, sets_are}
use Rattle.join_dp.proofs.Spending.{accesses_pay}
use Rattle.join_dp.proofs.settling.settle_states.Goals as goal

pub take_accesses-requires : goal.take_accesses-requires
take_accesses-requires c =
    let n = c.table_count-sets.ensures in
    let o = c.in_ok-states.ensures in
    open_new (space_in c.args.space.now) (search_of c.in_ok-states.states) o.states o.waiting (o.sets ∙ sets_are _ _ n.exact n.few) (o.orders ∙ c.order_count.ensures.exact) o.costs o.settled

pub states-init : goal.states-init
states-init c =
    let space = space_in c.args.space.now in
    let n = c.table_count-sets.ensures in
    let l = c.in_ok-lists.ensures in
    let o = c.in_ok-states.ensures in
    let a = c.in_ok-take_accesses.ensures in (
      record { sets = l.sets ∙ sets_are _ _ n.exact n.few; each = λ t p stand. absurd (let e = l.none t in cc); relations = λ t p stand. absurd (let e = l.none t in cc) },
      (0, begun space (IsListed c.in_ok-lists.lists) (search_of c.take_accesses.new.states) a.is_open a.low (λ t k. a.more.settled t k ∙ o.settled t k) (λ t is. absurd (let e = l.none t in let e' = is.1 in cc))),
      λ sorts joins counts. let few = a.steps in let none = o.steps in accesses_pay space sorts joins (costs_of c.take_accesses.new.states.costs).settled (listed_in c.in_ok-lists.lists) c.take_accesses.new.states.steps (omega (arith, few, none)),
    )

pub settle_next-requires : goal.settle_next-requires
settle_next-requires c = let i = c.states.invariant.1 in record { slotted = slotted (space_in c.args.space.now) i.0 (search_of c.states.states) i.1.is_open }

pub is_final-requires : goal.is_final-requires
is_final-requires c = let i = c.states.invariant.1 in (c.in-Some.ensures.next (space_in c.args.space.now) i.0 i.1.is_open).within

pub returns-then-is_final-clause-end : goal.returns-then-is_final-clause-end
returns-then-is_final-clause-end c =
    let space = space_in c.args.space.now in
    let i = c.states.invariant.1 in
    let n = c.in-Some.ensures.next space i.0 i.1.is_open in
    ended space (IsListed c.states.lists) i.0 c.in-Some.place (search_of c.states.states) (search_of c.settle_next.new.self) n
    (settled_next space (IsListed c.states.lists) i.0 c.in-Some.place (search_of c.states.states) (search_of c.settle_next.new.self) n i.1) (holds _ c.if-is_final.ensures)

pub returns-then-is_final-clause-steps : goal.returns-then-is_final-clause-steps
returns-then-is_final-clause-steps c = λ sorts joins counts.
    let space = space_in c.args.space.now in
    let i = c.states.invariant.1 in
    let n = c.in-Some.ensures.next space i.0 i.1.is_open in
    let steps = n.steps in
    let le = paid space sorts joins (costs_of c.states.states.costs).settled (listed_in c.states.lists) c.states.states.steps (listed_one c.states.lists) (c.states.invariant.2 sorts joins counts) in
    omega (arith, steps, le)

pub take_steps-requires-clause-place : goal.take_steps-requires-clause-place
take_steps-requires-clause-place c = let i = c.states.invariant.1 in (c.in-Some.ensures.next (space_in c.args.space.now) i.0 i.1.is_open).within

pub take_steps-requires-clause-never : goal.take_steps-requires-clause-never
take_steps-requires-clause-never c = fails _ c.if-is_final.ensures

pub take_steps-requires-clause-cost : goal.take_steps-requires-clause-cost
take_steps-requires-clause-cost c = let i = c.states.invariant.1 in (c.in-Some.ensures.next (space_in c.args.space.now) i.0 i.1.is_open).cost

pub take_steps-requires-clause-searched : goal.take_steps-requires-clause-searched
take_steps-requires-clause-searched c =
    let space = space_in c.args.space.now in
    let i = c.states.invariant.1 in
    let n = c.in-Some.ensures.next space i.0 i.1.is_open in
    settled_next space (IsListed c.states.lists) i.0 c.in-Some.place (search_of c.states.states) (search_of c.settle_next.new.self) n i.1

pub states-smaller : goal.states-smaller
states-smaller c =
    let space = space_in c.args.space.now in
    let i = c.states.invariant.1 in
    let n = c.in-Some.ensures.next space i.0 i.1.is_open in
    let t = c.in_ok-take_steps.ensures in
    fewer_left space i.0 c.in-Some.place (search_of c.states.states) (search_of c.settle_next.new.self) (search_of c.take_steps.new.states) n t.more i.1.is_open t.searched.is_open

pub states-preserved : goal.states-preserved
states-preserved c =
    let space = space_in c.args.space.now in
    let i = c.states.invariant.1 in
    let n = c.in-Some.ensures.next space i.0 i.1.is_open in
    let t = c.in_ok-take_steps.ensures in (
      t.lists,
      ((at (states_in c.settle_next.new.self) c.in-Some.place).found.cost, t.searched),
      λ sorts joins counts.
          still_paid space i.0 c.in-Some.place (search_of c.states.states) (search_of c.settle_next.new.self) (search_of c.take_steps.new.states) n t.more i.1.is_open t.searched.is_open
          sorts joins (listed_in c.states.lists) (listed_in c.take_steps.new.lists) t.listed (c.states.invariant.2 sorts joins counts) (t.steps sorts joins counts),
    )

pub unreachable-requires : goal.unreachable-requires
unreachable-requires c =
    let space = space_in c.args.space.now in
    let i = c.states.invariant.1 in
    some_waits space c.table_count-sets.ensures.complete i.0 (IsListed c.states.lists) (search_of c.states.states) i.1 (c.in_default.ensures.all space i.0 i.1.is_open)
