use Rattle.std.proofs.Common.{All}
use Rattle.definitions.specs.Plans.Order.{Order}
use Rattle.plan_tree.specs.Plans.{order_of, orders_in}
use Rattle.interesting_orders.specs.Each.{AreSoFar}
use Rattle.interesting_orders.specs.Equated.{places_in}
use Rattle.interesting_orders.specs.Merges.{IsWithin}
use Rattle.interesting_orders.specs.Uses.{IsUseOf}
use Rattle.interesting_orders.specs.declared.order_use.OrderUse.{OrderUse}
use Rattle.interesting_orders.proofs.order_use.order_uses.Given as goal

abbrev pub invariant-orders : goal.invariant-orders
invariant-orders l = record {
  within : All (λ (u : OrderUse). IsWithin (places_in l.equated) u.lead) l.uses.items;
  exact : AreSoFar (λ (order : Order) (u : OrderUse). IsUseOf l.equated l.classes (order_of l.required) order u) (orders_in l.orders) l.uses.items l.order-index;
}
