use Rattle.std.proofs.Common.{◌≡◌, ◌≤◌, drop, map}
use Rattle.definitions.specs.Estimates.Cardinality.{left_by}
use Rattle.plan_tree.specs.Sets.{set_of}
use Rattle.estimate.specs.PlanConjuncts.{conjunct_of, names_known}
use Rattle.estimate.proofs.shares.left_by_known.Given as goal

abbrev pub invariant-conjuncts : goal.invariant-conjuncts
invariant-conjuncts l = record {
  exact : left_by (names_known (set_of l.known) l.table) (map conjunct_of (drop l.conjunct-index l.conjuncts)) l.left ≡ left_by (names_known (set_of l.known) l.table) (map conjunct_of l.conjuncts) l.rows;
  below : l.left ≤ l.rows;
}
