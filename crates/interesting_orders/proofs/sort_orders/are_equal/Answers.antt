use Rattle.plan_tree.specs.Plans.{key_of}
use Rattle.interesting_orders.proofs.Comparing.{not_one}
use Rattle.interesting_orders.proofs.sort_orders.are_equal.Goals as goal

pub returns-then-a-b : goal.returns-then-a-b
returns-then-a-b c = not_one key_of key_of c.args.a.now c.args.b.now c.if-a-b.true
