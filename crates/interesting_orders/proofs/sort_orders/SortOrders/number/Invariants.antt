use Rattle.std.proofs.Common.{◌≡◌, ◌+◌, drop}
use Rattle.definitions.specs.Plans.Numbering.{number_of}
use Rattle.plan_tree.specs.Plans.{order_of}
use Rattle.interesting_orders.proofs.sort_orders.SortOrders.number.Given as goal

abbrev pub invariant-orders : goal.invariant-orders
invariant-orders l = l.number + number_of (drop l.number l.self) (order_of l.keys) ≡ number_of l.self (order_of l.keys)
