use Rattle.std.proofs.Common.{map}
use Rattle.query_tree.specs.Bound.{block_of}
use Rattle.planner.proofs.Least.{LeastTo}
use Rattle.planner.proofs.block_plans.least_plans.Given as goal

abbrev pub invariant-planning : goal.invariant-planning
invariant-planning l = LeastTo l.database (map block_of l.blocks) l.block-index l.plans.items
