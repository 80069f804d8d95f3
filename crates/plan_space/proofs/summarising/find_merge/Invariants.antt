use Rattle.plan_tree.specs.Plans.{inner_of}
use Rattle.plan_tree.specs.Sets.{set_of}
use Rattle.plan_space.specs.Planned.{space_in}
use Rattle.plan_space.proofs.Plans.{IsLeftMerge}
use Rattle.plan_space.proofs.summarising.find_merge.Given as goal

abbrev pub invariant-merges : goal.invariant-merges
invariant-merges l = IsLeftMerge (space_in l.space) (set_of l.outer.tables) l.conjunct (inner_of l.inner) l.rest
