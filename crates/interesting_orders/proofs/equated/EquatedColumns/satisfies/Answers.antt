use Rattle.std.proofs.Common.{◌<◌, refl, length, arith}
use Rattle.interesting_orders.proofs.Serving.{next_key, too_long}
use Rattle.interesting_orders.proofs.equated.EquatedColumns.satisfies.Goals as goal

pub returns-then-order-wanted : goal.returns-then-order-wanted
returns-then-order-wanted c = λ space tables e classes.
    ((λ h. absurd cc), λ h. absurd (too_long space tables c.args.order.now c.args.wanted.now c.if-order-wanted.true h))

pub returns-then-not-serves : goal.returns-then-not-serves
returns-then-not-serves c = λ space tables e classes.
    let within : c.keys.place < length c.args.order.now = omega (arith, c.keys-test.true, c.if-order-wanted.false) in
    let step = next_key space tables c.args.order.now c.args.wanted.now c.keys.place _ _ _ _ within c.keys-test.true refl refl in
    ((λ h. absurd cc), λ whole. let yes = (c.serves.ensures space tables e classes).1 (step.0 ((c.keys.invariant space tables e classes).1 whole)).0 in absurd cc)

pub keys-preserved : goal.keys-preserved
keys-preserved c = λ space tables e classes.
    let within : c.keys.place < length c.args.order.now = omega (arith, c.keys-test.true, c.if-order-wanted.false) in
    let step = next_key space tables c.args.order.now c.args.wanted.now c.keys.place _ _ _ _ within c.keys-test.true refl refl in
    let before = c.keys.invariant space tables e classes in
    let serves = (c.serves.ensures space tables e classes).0 c.if-not-serves.false in
    ((λ rest. before.0 (step.1 (serves, rest))), λ whole. (step.0 (before.1 whole)).1)
