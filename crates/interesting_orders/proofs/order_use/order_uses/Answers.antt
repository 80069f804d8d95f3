use Rattle.std.proofs.Common.{arith}
use Rattle.std.specs.Global.{Vec}
use Rattle.std.proofs.lemmas.List.{length-map}
use Rattle.definitions.specs.Plans.Order.{Order}
use Rattle.plan_tree.specs.Plans.{order_of, orders_in}
use Rattle.plan_tree.specs.declared.order.SortKey.{SortKey}
use Rattle.interesting_orders.specs.Equated.{places_in}
use Rattle.interesting_orders.specs.Merges.{IsWithin}
use Rattle.interesting_orders.specs.Uses.{IsUseOf}
use Rattle.interesting_orders.specs.declared.order_use.OrderUse.{OrderUse}
use Rattle.interesting_orders.proofs.Each.{all_and, one_more, all_of_them, mapped_at}
use Rattle.interesting_orders.proofs.order_use.order_uses.Goals as goal

pub orders-preserved : goal.orders-preserved
orders-preserved c =
    let e = c.args.equated.now in
    let orders = c.args.orders.now in
    let here = c.order-item.result in
    let is_use : IsUseOf e c.args.classes.now (order_of c.args.required.now) (order_of here.items) c.order_use.result = rw c.deref.ensures.value at c.order_use.ensures.exact in
    record {
      within = rw c.in_ok-push.ensures.items (all_and (λ (u : OrderUse). IsWithin (places_in e) u.lead) c.orders.uses.items c.order_use.result c.orders.invariant.within c.order_use.ensures.within);
      exact = rw c.in_ok-push.ensures.items (one_more (λ (order : Order) (u : OrderUse). IsUseOf e c.args.classes.now (order_of c.args.required.now) order u) (orders_in orders) c.orders.uses.items c.orders.order-index
          (order_of here.items) c.order_use.result c.orders.invariant.exact (mapped_at (λ (keys : Vec SortKey). order_of keys.items) orders c.orders.order-index here c.orders-test.true c.order-item.is) is_use);
    }

pub returns-clause-exact : goal.returns-clause-exact
returns-clause-exact c =
    let orders = c.args.orders.now in
    all_of_them (λ (order : Order) (u : OrderUse). IsUseOf c.args.equated.now c.args.classes.now (order_of c.args.required.now) order u) (orders_in orders) c.orders.uses.items c.orders.order-index
    (omega (arith, c.orders-test.false, c.orders.auto.order-index-end, length-map orders (λ (keys : Vec SortKey). order_of keys.items))) c.orders.invariant.exact
