use Rattle.std.proofs.Common.{◌<◌, length, arith}
use Rattle.query_tree.specs.Bound.{block_of}
use Rattle.plan_tree.specs.Versions.{version_of}
use Rattle.interesting_orders.proofs.Adding.{next_table}
use Rattle.interesting_orders.proofs.sort_orders.SortOrders.add_indexes.Goals as goal

pub tables-preserved : goal.tables-preserved
tables-preserved c =
    let block = block_of c.args.estimate.now.block in
    let within : c.tables.table < length block.tables = omega (arith, c.tables-test.true, c.table_count-table-end.ensures.exact) in
    next_table (version_of c.args.version) c.args.estimate.now.database block c.tables.table (length block.tables) c.table.result.now c.tables.self c.add_table.new.self _ within c.table.ensures c.in_ok-add_table.ensures c.tables.invariant
