use Rattle.std.proofs.Common.{◌≡◌, ◌∙◌, ◌<◌, sym, ap, length, arith}
use Rattle.definitions.specs.Plans.Numbering.{number_of, same_order}
use Rattle.plan_tree.specs.Plans.{order_of, orders_in}
use Rattle.query_tree.specs.Bound.{block_of}
use Rattle.interesting_orders.specs.Keys.{index_keys}
use Rattle.interesting_orders.proofs.Adding.{columns_told}
use Rattle.interesting_orders.proofs.Comparing.{number_found, number_further}
use Rattle.interesting_orders.proofs.sort_orders.SortOrders.index_number.Goals as goal

pub returns-then-is_of_index : goal.returns-then-is_of_index
returns-then-is_of_index c =
    let stored = c.self.inside.orders.items in
    let are : orders_in stored ≡ c.args.self.now = c.self.view_is in
    let within : c.orders.number < length stored = omega (arith, c.orders-test.true, c.len-number-end.ensures) in
    let test = same_order (index_keys c.args.table c.columns-columns.result.now c.args.backward) in
    let passed = ap (λ keys. test (order_of keys)) (sym c.deref.ensures.value) ∙ sym c.is_of_index.ensures ∙ c.if-is_of_index.true in
    number_found test c.args.self.now stored are c.orders.number c.index-in-orders.result.now within c.index-in-orders.ensures passed c.orders.invariant
    ∙ ap (λ columns. number_of c.args.self.now (index_keys c.args.table columns c.args.backward))
    (columns_told c.args.estimate.now.database (block_of c.args.estimate.now.block) c.args.table c.args.index c.table.result.now c.index.result.now.index c.columns-columns.result.now c.table.ensures c.index.ensures.exact c.columns-columns.ensures)

pub orders-preserved : goal.orders-preserved
orders-preserved c =
    let stored = c.self.inside.orders.items in
    let are : orders_in stored ≡ c.args.self.now = c.self.view_is in
    let within : c.orders.number < length stored = omega (arith, c.orders-test.true, c.len-number-end.ensures) in
    let test = same_order (index_keys c.args.table c.columns-columns.result.now c.args.backward) in
    let failed = ap (λ keys. test (order_of keys)) (sym c.deref.ensures.value) ∙ sym c.is_of_index.ensures ∙ c.if-is_of_index.false in
    number_further test c.args.self.now stored are c.orders.number c.index-in-orders.result.now within c.index-in-orders.ensures failed c.orders.invariant
