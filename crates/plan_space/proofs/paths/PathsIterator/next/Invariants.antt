use Rattle.std.proofs.Common.{◌≡◌, length, map}
use Rattle.plan_tree.specs.Sets.{set_of}
use Rattle.plan_space.specs.Item.{open_items}
use Rattle.plan_space.specs.PathListed.{listed_path_of}
use Rattle.plan_space.proofs.paths.PathsIterator.next.Given as goal

abbrev pub invariant-paths : goal.invariant-paths
invariant-paths l = open_items (set_of l.self-inside.known) l.self-inside.rows (map listed_path_of l.self-inside.rest.now) ≡ l.fn.self

abbrev pub decreases-paths : goal.decreases-paths
decreases-paths l = length l.self-inside.rest.now
