use Rattle.plan_tree.specs.Plans.{path_of}
use Rattle.plan_tree.specs.Sets.{set_of}
use Rattle.plan_space.specs.Planned.{space_in}
use Rattle.plan_space.proofs.Plans.{IsLeft}
use Rattle.plan_space.proofs.summarising.find_path.Given as goal

abbrev pub invariant-paths : goal.invariant-paths
invariant-paths l = IsLeft (space_in l.space) (set_of l.fn.known) (path_of l.path) l.rest
