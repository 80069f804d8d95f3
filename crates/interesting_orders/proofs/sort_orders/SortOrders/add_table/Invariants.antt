use Rattle.std.proofs.Common.{◌≡◌, drop}
use Rattle.std.specs.Prelude.{fold, flat_map}
use Rattle.plan_tree.specs.Versions.{version_of}
use Rattle.interesting_orders.specs.Adding.{added, read_keys}
use Rattle.interesting_orders.proofs.sort_orders.SortOrders.add_table.Given as goal

abbrev pub invariant-indexes : goal.invariant-indexes
invariant-indexes l = fold added l.self (flat_map (read_keys (version_of l.version) l.number l.table) (drop l.index-index l.index-items)) ≡ fold added l.fn.self (flat_map (read_keys (version_of l.version) l.number l.table) l.index-items)
