use Rattle.join_dp.proofs.Slots.{none_behind, one_behind}
use Rattle.join_dp.proofs.state_costs.push_times.Goals as goal

pub items-init : goal.items-init
items-init g c = none_behind c.args.item c.args.items.now.items

pub items-preserved : goal.items-preserved
items-preserved g c = rw c.in_ok-push.ensures.items (one_behind c.args.item c.args.items.now.items c.items.items.items c.items.counter c.items.invariant)
