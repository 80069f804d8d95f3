use Rattle.std.proofs.Common.{◌≡◌, ◌≤◌, length}
use Rattle.definitions.specs.Plans.Cost.{limit}
use Rattle.definitions.specs.Estimates.Cardinality.{cardinality, taking}
use Rattle.query_tree.specs.Bound.{block_of}
use Rattle.plan_tree.specs.Sets.{set_of}
use Rattle.estimate.proofs.Members.{members_from}
use Rattle.estimate.proofs.estimate.Estimate.cardinality.Given as goal

abbrev pub invariant-tables : goal.invariant-tables
invariant-tables l = record {
  exact : taking l.self.database (block_of l.self.block) (set_of l.taken) l.rows (members_from (set_of l.tables) l.table (length (block_of l.self.block).tables)) ≡ cardinality l.self.database (block_of l.self.block) (set_of l.tables);
  below : l.rows ≤ limit;
}
