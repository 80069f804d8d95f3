use Rattle.query_tree.specs.Bound.{block_of}
use Rattle.certificate.proofs.Columns.{next, next_indexes}
use Rattle.certificate.proofs.block_space.indexes_of.Goals as goal

pub tables-preserved : goal.tables-preserved
tables-preserved c =
    rw (c.in_ok-push.ensures.items, next c.tables.number) (next_indexes c.args.estimate.now.database (block_of c.args.estimate.now.block).tables c.tables.number c.table.result.now c.tables.all.items c.in_ok-indexes.indexes
    c.table.ensures c.in_ok-indexes.ensures c.tables.invariant)
