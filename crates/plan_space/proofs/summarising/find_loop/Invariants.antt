use Rattle.plan_tree.specs.Plans.{path_of}
use Rattle.plan_tree.specs.Sets.{set_of}
use Rattle.plan_space.specs.Planned.{space_in}
use Rattle.plan_space.proofs.Plans.{IsLeftLoop}
use Rattle.plan_space.proofs.summarising.find_loop.Given as goal

abbrev pub invariant-loops : goal.invariant-loops
invariant-loops l = IsLeftLoop (space_in l.space) (set_of l.outer.tables) (path_of l.path) l.rest
