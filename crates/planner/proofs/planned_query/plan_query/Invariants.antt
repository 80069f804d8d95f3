use Rattle.std.proofs.Common.{◌≡◌, map}
use Rattle.query_tree.specs.Bound.{block_of}
use Rattle.planner.proofs.Plans.{PlansTo}
use Rattle.planner.proofs.planned_query.plan_query.Given as goal

abbrev pub invariant-planning : goal.invariant-planning
invariant-planning l = record {
  planned : PlansTo l.database (map block_of l.blocks) l.block-index l.planned.items;
  number : l.number ≡ l.block-index;
}
