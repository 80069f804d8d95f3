use Rattle.std.proofs.Common.{Option, map}
use Rattle.definitions.specs.Plans.Conjunct.{Conjunct}
use Rattle.query_tree.specs.Bound.{column_of}
use Rattle.interesting_orders.specs.declared.equivalence_classes.Equality.{Equality}
use Rattle.estimate.specs.PlanConjuncts.{conjunct_of}
use Rattle.interesting_orders.specs.Each.{AreSoFar}
use Rattle.interesting_orders.specs.Places.{sides_of, IsEquation}
use Rattle.interesting_orders.proofs.places.equations_of.Given as goal

abbrev pub invariant-conjuncts : goal.invariant-conjuncts
invariant-conjuncts l =
    AreSoFar (λ (c : Conjunct) (e : Option Equality). IsEquation (map column_of l.columns) (sides_of c) e) (map conjunct_of l.conjuncts) l.equations.items l.conjunct-index
