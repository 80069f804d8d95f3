-- What the items of this crate stand for.
use Rattle.plan_tree.specs.Plans.{path_of}
use Rattle.plan_space.specs.Item.{Item}
use Rattle.plan_space.specs.declared.paths.CostedPath.{CostedPath}

abbrev pub item_of : CostedPath → Item
item_of item = record { path = path_of item.path.now; order = item.order; cost = item.cost.number }
