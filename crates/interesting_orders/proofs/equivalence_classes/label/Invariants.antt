use Rattle.std.proofs.Common.{map}
use Rattle.query_tree.specs.Bound.{column_of}
use Rattle.plan_tree.specs.Sets.{set_of}
use Rattle.interesting_orders.proofs.Labelling.{Labelled}
use Rattle.interesting_orders.proofs.equivalence_classes.label.Given as goal

abbrev pub invariant-equations : goal.invariant-equations
invariant-equations l = Labelled (set_of l.tables) (map column_of l.columns) l.equations l.labels l.equation-index
