use Rattle.std.proofs.Common.{◌≡◌, ◌-◌, length}
use Rattle.std.specs.Prelude.{fold, flat_map}
use Rattle.std.specs.List.{range_with_len}
use Rattle.definitions.specs.Estimates.Orders.{index_orders, table_orders}
use Rattle.query_tree.specs.Bound.{block_of}
use Rattle.plan_tree.specs.Versions.{version_of}
use Rattle.interesting_orders.specs.Adding.{added}
use Rattle.interesting_orders.proofs.sort_orders.SortOrders.add_indexes.Given as goal

abbrev pub invariant-tables : goal.invariant-tables
invariant-tables l = fold added l.self (flat_map (table_orders (version_of l.version) l.estimate.database (block_of l.estimate.block)) (range_with_len l.table (length (block_of l.estimate.block).tables - l.table)))
    ≡ fold added l.fn.self (index_orders (version_of l.version) l.estimate.database (block_of l.estimate.block))
