use Rattle.std.proofs.Common.{◌≡◌, map}
use Rattle.definitions.specs.Plans.Space.{Space}
use Rattle.plan_tree.specs.Sets.{set_of}
use Rattle.estimate.specs.PlanConjuncts.{conjunct_of}
use Rattle.plan_space.specs.Linked.{AreLinked}
use Rattle.plan_space.proofs.join_graph.linked_to.Given as goal

abbrev pub invariant-tables : goal.invariant-tables
invariant-tables l = (space : Space) → space.conjuncts ≡ map conjunct_of l.conjuncts → AreLinked space l.table (set_of l.set) (set_of l.linked)
