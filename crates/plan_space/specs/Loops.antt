-- What the loops of this crate stand for.
use Rattle.plan_tree.specs.Plans.{path_of}
use Rattle.plan_space.specs.Loop.{LoopItem}
use Rattle.plan_space.specs.declared.loop_joins.CostedLoop.{CostedLoop}

abbrev pub loop_of : CostedLoop → LoopItem
loop_of item = record { path = path_of item.path.now; cost = item.cost.number }
