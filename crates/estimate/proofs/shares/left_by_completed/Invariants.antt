use Rattle.std.proofs.Common.{◌≡◌, ◌≤◌, drop, map}
use Rattle.definitions.specs.Estimates.Cardinality.{is_completed, left_by}
use Rattle.plan_tree.specs.Sets.{set_of}
use Rattle.estimate.specs.PlanConjuncts.{conjunct_of}
use Rattle.estimate.proofs.shares.left_by_completed.Given as goal

abbrev pub invariant-conjuncts : goal.invariant-conjuncts
invariant-conjuncts l = record {
  exact : left_by (is_completed (set_of l.taken) l.table) (map conjunct_of (drop l.conjunct-index l.conjuncts)) l.left ≡ left_by (is_completed (set_of l.taken) l.table) (map conjunct_of l.conjuncts) l.rows;
  below : l.left ≤ l.rows;
}
