use Rattle.plan_space.specs.Planned.{space_in}
use Rattle.std.specs.Prelude.{option_map}
use Rattle.plan_space.specs.Items.{item_of}
use Rattle.plan_tree.specs.Sets.{set_of}
use Rattle.join_dp.proofs.LeastPaths.{Chosen}
use Rattle.join_dp.proofs.cheapest_path.cheapest_path.Given as goal

abbrev pub invariant-paths : goal.invariant-paths
invariant-paths l = Chosen (space_in l.space) (set_of l.fn.known) l.table (option_map item_of l.best) l.item-iterator
