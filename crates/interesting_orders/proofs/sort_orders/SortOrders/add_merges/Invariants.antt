use Rattle.std.proofs.Common.{◌≡◌, drop, map}
use Rattle.std.specs.Prelude.{fold}
use Rattle.definitions.specs.Plans.Numbering.{merge_orders}
use Rattle.estimate.specs.PlanConjuncts.{conjunct_of}
use Rattle.interesting_orders.specs.Adding.{added}
use Rattle.interesting_orders.proofs.sort_orders.SortOrders.add_merges.Given as goal

abbrev pub invariant-conjuncts : goal.invariant-conjuncts
invariant-conjuncts l = fold added l.self (merge_orders (map conjunct_of (drop l.conjunct-index l.conjuncts))) ≡ fold added l.fn.self (merge_orders (map conjunct_of l.conjuncts))
