use Rattle.plan_space.specs.Planned.{space_in}
use Rattle.std.specs.Prelude.{option_map}
use Rattle.plan_space.specs.Items.{item_of}
use Rattle.plan_tree.specs.Sets.{set_of}
use Rattle.join_dp.proofs.LeastPaths.{chosen_begin, chosen_go, chosen_end}
use Rattle.join_dp.proofs.cheapest_path.cheapest_path.Goals as goal

pub paths-init : goal.paths-init
paths-init c = rw c.into_iter-item-iterator.ensures.into_iter_gives (chosen_begin (space_in c.args.space.now) (set_of c.args.known) c.args.table _ c.paths-item-items.ensures)

pub paths-preserved : goal.paths-preserved
paths-preserved c =
    chosen_go (space_in c.args.space.now) (set_of c.args.known) c.args.table (option_map item_of c.paths.best) _ _ (item_of c.in-Some.item) (item_of c.cheaper.result) c.in-Some.ensures.steps c.cheaper.ensures c.paths.invariant

pub returns : goal.returns
returns c = chosen_end (space_in c.args.space.now) (set_of c.args.known) c.args.table (option_map item_of c.paths.best) _ c.in-None.ensures.steps.0 c.paths.invariant
