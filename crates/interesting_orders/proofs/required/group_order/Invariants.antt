use Rattle.std.proofs.Common.{◌≡◌, ◌++◌, drop, map}
use Rattle.std.specs.Prelude.{flat_map}
use Rattle.definitions.specs.Plans.Order.{ascending}
use Rattle.query_tree.specs.Bound.{column_of}
use Rattle.plan_tree.specs.Plans.{order_of}
use Rattle.interesting_orders.proofs.required.group_order.Given as goal

abbrev pub invariant-columns : goal.invariant-columns
invariant-columns l = order_of l.keys.items ++ flat_map ascending (map column_of (drop l.column-index l.columns)) ≡ flat_map ascending (map column_of l.columns)
