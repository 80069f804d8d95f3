use Rattle.std.proofs.Common.{map}
use Rattle.plan_tree.specs.Sets.{set_of}
use Rattle.estimate.specs.PlanConjuncts.{conjunct_of}
use Rattle.plan_space.proofs.Linking.{NoneLinks}
use Rattle.plan_space.proofs.join_graph.is_linked.Given as goal

abbrev pub invariant-conjuncts : goal.invariant-conjuncts
invariant-conjuncts l = NoneLinks (map conjunct_of l.conjuncts) (set_of l.set) l.table l.conjunct-index
