use Rattle.std.proofs.Common.{◌≡◌, ◌++◌, drop, map}
use Rattle.plan_tree.specs.Plans.{order_of}
use Rattle.interesting_orders.specs.Keys.{read_key}
use Rattle.interesting_orders.proofs.sort_orders.index_order.Given as goal

abbrev pub invariant-columns : goal.invariant-columns
invariant-columns l = order_of l.keys.items ++ map (read_key l.table l.backward) (drop l.column-index l.columns) ≡ map (read_key l.table l.backward) l.columns
