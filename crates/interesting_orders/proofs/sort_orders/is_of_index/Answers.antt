use Rattle.plan_tree.specs.Plans.{key_of}
use Rattle.interesting_orders.specs.Keys.{read_key}
use Rattle.interesting_orders.proofs.Comparing.{not_one}
use Rattle.interesting_orders.proofs.sort_orders.is_of_index.Goals as goal

pub returns-then-columns-order : goal.returns-then-columns-order
returns-then-columns-order c = not_one (read_key c.args.table c.args.backward) key_of c.args.columns.now c.args.order.now c.if-columns-order.true
