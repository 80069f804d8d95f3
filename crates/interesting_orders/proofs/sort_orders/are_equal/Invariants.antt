use Rattle.std.proofs.Common.{◌≡◌, drop}
use Rattle.definitions.specs.Plans.Numbering.{same_order}
use Rattle.plan_tree.specs.Plans.{order_of}
use Rattle.interesting_orders.proofs.sort_orders.are_equal.Given as goal

abbrev pub invariant-keys : goal.invariant-keys
invariant-keys l = same_order (order_of (drop l.place l.a)) (order_of (drop l.place l.b)) ≡ same_order (order_of l.a) (order_of l.b)
