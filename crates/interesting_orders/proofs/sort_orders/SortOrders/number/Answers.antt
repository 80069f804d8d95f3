use Rattle.std.proofs.Common.{◌≡◌, ◌∙◌, ◌<◌, sym, ap, length, arith}
use Rattle.definitions.specs.Plans.Numbering.{same_order}
use Rattle.plan_tree.specs.Plans.{order_of, orders_in}
use Rattle.interesting_orders.proofs.Comparing.{number_found, number_further}
use Rattle.interesting_orders.proofs.sort_orders.SortOrders.number.Goals as goal

pub returns-then-are_equal : goal.returns-then-are_equal
returns-then-are_equal c =
    let stored = c.self.inside.orders.items in
    let are : orders_in stored ≡ c.args.self.now = c.self.view_is in
    let within : c.orders.number < length stored = omega (arith, c.orders-test.true, c.len-number-end.ensures) in
    let test = same_order (order_of c.args.keys.now) in
    let passed = ap (λ keys. test (order_of keys)) (sym c.deref.ensures.value) ∙ sym c.are_equal.ensures ∙ c.if-are_equal.true in
    number_found test c.args.self.now stored are c.orders.number c.index.result.now within c.index.ensures passed c.orders.invariant

pub orders-preserved : goal.orders-preserved
orders-preserved c =
    let stored = c.self.inside.orders.items in
    let are : orders_in stored ≡ c.args.self.now = c.self.view_is in
    let within : c.orders.number < length stored = omega (arith, c.orders-test.true, c.len-number-end.ensures) in
    let test = same_order (order_of c.args.keys.now) in
    let failed = ap (λ keys. test (order_of keys)) (sym c.deref.ensures.value) ∙ sym c.are_equal.ensures ∙ c.if-are_equal.false in
    number_further test c.args.self.now stored are c.orders.number c.index.result.now within c.index.ensures failed c.orders.invariant
