use Rattle.std.proofs.Common.{◌≡◌, drop}
use Rattle.definitions.specs.Plans.Numbering.{same_order}
use Rattle.plan_tree.specs.Plans.{order_of}
use Rattle.interesting_orders.specs.Keys.{index_keys}
use Rattle.interesting_orders.proofs.sort_orders.is_of_index.Given as goal

abbrev pub invariant-keys : goal.invariant-keys
invariant-keys l = same_order (index_keys l.table (drop l.place l.columns) l.backward) (order_of (drop l.place l.order)) ≡ same_order (index_keys l.table l.columns l.backward) (order_of l.order)
