use Rattle.std.proofs.Common.{◌≡◌, ◌≤◌, ◌*◌, length}
use Rattle.definitions.specs.Estimates.Cardinality.{width}
use Rattle.query_tree.specs.Bound.{block_of}
use Rattle.plan_tree.specs.Sets.{set_of}
use Rattle.estimate.specs.Widths.{widest}
use Rattle.estimate.proofs.Members.{members_from, width_from}
use Rattle.estimate.proofs.estimate.Estimate.width.Given as goal

abbrev pub invariant-tables : goal.invariant-tables
invariant-tables l = record {
  exact : width_from l.self-inside.database.now (block_of l.self-inside.block.now) l.width (members_from (set_of l.tables) l.table (length l.self-inside.sizes.items)) ≡ width l.self-inside.database.now (block_of l.self-inside.block.now) (set_of l.tables);
  below : l.width ≤ widest * l.table;
}
