use Rattle.std.proofs.Common.{◌≡◌, ℕ, ◌*◌, ◌<◌, ◌≤◌, Some, length, map}
use Rattle.std.specs.Prelude.{slice_get}
use Rattle.definitions.specs.Plans.Conjunct.{Conjunct}
use Rattle.query_tree.specs.Bound.{column_of}
use Rattle.interesting_orders.specs.Classes.{AreDistinct}
use Rattle.estimate.specs.PlanConjuncts.{conjunct_of}
use Rattle.interesting_orders.specs.Places.{sides_of, HasSides}
use Rattle.interesting_orders.proofs.places.equated_columns.Given as goal

abbrev pub invariant-conjuncts : goal.invariant-conjuncts
invariant-conjuncts l = record {
  few : length l.columns.items ≤ 2 * l.conjunct-index;
  distinct : AreDistinct (map column_of l.columns.items);
  whole : (number : ℕ) (c : Conjunct) → number < l.conjunct-index → slice_get (map conjunct_of l.conjuncts) number ≡ Some c → HasSides (map column_of l.columns.items) (sides_of c);
}
