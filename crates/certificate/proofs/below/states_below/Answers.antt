use Rattle.std.proofs.Common.{◌<◌, ◌≤◌, length, arith}
use Rattle.certificate.proofs.Rising.{below_all, all_below, stops, ends}
use Rattle.certificate.proofs.below.states_below.Goals as goal

pub returns-in-Some-clause-err : goal.returns-in-Some-clause-err
returns-in-Some-clause-err c = λ h.
    let within : c.states.place < length c.args.states.now = omega arith in
    stops c.args.target c.states.before c.args.states.now c.states.place c.index-states-place.result within c.index-states-place.is
    (λ both. c.in-Some.ensures.some both.0)
    (c.states.invariant.part (all_below c.args.target c.args.states.now h))

pub returns-then-target-state-clause-err : goal.returns-then-target-state-clause-err
returns-then-target-state-clause-err c = λ h.
    let within : c.states.place < length c.args.states.now = omega arith in
    stops c.args.target c.states.before c.args.states.now c.states.place c.index-states-place.result within c.index-states-place.is
    (λ both. omega (arith, both.1, c.if-target-state.true))
    (c.states.invariant.part (all_below c.args.target c.args.states.now h))

pub returns-clause-ok : goal.returns-clause-ok
returns-clause-ok c =
    let behind : length c.args.states.now ≤ c.states.place = omega arith in
    below_all c.args.target c.args.states.now (c.states.invariant.whole (ends c.args.target c.states.before c.args.states.now c.states.place behind))
