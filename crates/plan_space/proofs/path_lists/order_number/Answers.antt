use Rattle.std.proofs.Common.{◌∙◌, sym, ap}
use Rattle.query_tree.specs.Bound.{block_of}
use Rattle.definitions.specs.Estimates.Orders.{index_order}
use Rattle.definitions.specs.Plans.Numbering.{number_of}
use Rattle.definitions.specs.Plans.Path.{IndexScan, MatchingScan}
use Rattle.access_paths.specs.Found.{Reads}
use Rattle.plan_space.proofs.path_lists.order_number.Goals as goal

pub returns-in-Index : goal.returns-in-Index
returns-in-Index c =
    let db = c.args.estimate.now.database in
    let block = block_of c.args.estimate.now.block in
    let reads : Reads db block c.args.table (IndexScan c.in-Index.table c.in-Index.index c.in-Index.backward) = rw c.in-Index.is at c.requires.reads in
    rw c.in-Index.is (c.index_number.ensures ∙ ap (λ t. number_of c.args.orders.now (index_order db block t c.in-Index.index c.in-Index.backward)) (sym reads.0))

pub returns-in-Match : goal.returns-in-Match
returns-in-Match c =
    let db = c.args.estimate.now.database in
    let block = block_of c.args.estimate.now.block in
    let reads : Reads db block c.args.table (MatchingScan c.in-Match.table c.in-Match.index c.in-Match.conjuncts.items c.in-Match.backward) = rw c.in-Match.is at c.requires.reads in
    rw c.in-Match.is (c.index_number-in-Match.ensures ∙ ap (λ t. number_of c.args.orders.now (index_order db block t c.in-Match.index c.in-Match.backward)) (sym reads.0))
