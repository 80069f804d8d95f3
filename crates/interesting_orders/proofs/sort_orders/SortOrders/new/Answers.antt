use Rattle.definitions.specs.Estimates.Orders.{index_orders, required_of}
use Rattle.definitions.specs.Estimates.PlanConjuncts.{plan_conjuncts}
use Rattle.query_tree.specs.Bound.{block_of}
use Rattle.estimate.specs.PlanConjuncts.{conjunct_of}
use Rattle.std.proofs.Common.{map}
use Rattle.plan_tree.specs.Versions.{version_of}
use Rattle.interesting_orders.proofs.Adding.{added_in_turn}
use Rattle.interesting_orders.proofs.sort_orders.SortOrders.new.Goals as goal

pub returns : goal.returns
returns c =
    let db = c.args.estimate.now.database in
    let block = block_of c.args.estimate.now.block in
    added_in_turn (required_of block) (plan_conjuncts db block) (index_orders (version_of c.args.version) db block) c.new.result.items c.new-2.result.items c.in_ok-from_slice.field-0.items c.args.required.now
    (map conjunct_of c.conjuncts.result.now) c.add.new.self c.add-2.new.self c.add_merges.new.self c.add_indexes.new.self c.new.ensures.items c.new-2.ensures.items c.in_ok-add.ensures c.in_ok-from_slice.ensures.items
    c.requires.required c.in_ok-add-2.ensures c.conjuncts.ensures.exact c.in_ok-add_merges.ensures c.in_ok-add_indexes.ensures
