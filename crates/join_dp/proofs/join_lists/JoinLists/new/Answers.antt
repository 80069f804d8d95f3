use Rattle.std.proofs.Common.{◌∙◌, ◌+◌, ap, length-append, None, [], ◌∷◌, refl, arith}
use Rattle.join_dp.proofs.Slots.{none_pushed}
use Rattle.join_dp.proofs.join_lists.JoinLists.new.Goals as goal

pub sets-init : goal.sets-init
sets-init c = rw c.new-places.ensures.items ((λ k. refl), refl)

pub sets-preserved : goal.sets-preserved
sets-preserved c = rw c.in_ok-push.ensures.items (none_pushed c.sets.places.items c.sets.invariant.0, length-append c.sets.places.items (None ∷ []) ∙ ap (λ n. n + 1) c.sets.invariant.1)

pub returns-clause-sets : goal.returns-clause-sets
returns-clause-sets c = omega (arith, c.sets.invariant.1, c.sets-test.false, c.sets.auto.counter-end)

pub returns-clause-none : goal.returns-clause-none
returns-clause-none c = c.sets.invariant.0
