use Rattle.std.proofs.Common.{◌∙◌, ◌+◌, ap, length-append, None, [], ◌∷◌, refl, arith}
use Rattle.join_dp.proofs.Slots.{none_pushed, no_rows, no_flags}
use Rattle.join_dp.proofs.state_costs.StateCosts.new.Goals as goal

pub sets-init : goal.sets-init
sets-init c = rw c.new-rows.ensures.items ((λ k. refl), refl)

pub sets-preserved : goal.sets-preserved
sets-preserved c = rw c.in_ok-push.ensures.items (none_pushed c.sets.rows.items c.sets.invariant.0, length-append c.sets.rows.items (None ∷ []) ∙ ap (λ n. n + 1) c.sets.invariant.1)

pub invariant_of-result : goal.invariant_of-result
invariant_of-result c = record {
  apart = no_rows c.args.orders c.sets.rows.items _ c.sets.invariant.0;
  clear = rw (c.new.ensures.items, c.new-2.ensures.items) no_flags;
}

pub returns-clause-sets : goal.returns-clause-sets
returns-clause-sets c = omega (arith, c.sets.invariant.1, c.sets-test.false, c.sets.auto.counter-end)

pub returns-clause-costs : goal.returns-clause-costs
returns-clause-costs c = λ t k. rw (c.sets.invariant.0 t) refl

pub returns-clause-settled : goal.returns-clause-settled
returns-clause-settled c = λ t k. rw (c.sets.invariant.0 t) refl
