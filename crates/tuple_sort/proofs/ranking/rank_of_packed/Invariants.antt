use Rattle.std.proofs.Common.{◌≡◌, drop}
use Rattle.definitions_execution.specs.RowOrder.{ranked_by}
use Rattle.plan_tree.specs.Plans.{order_of}
use Rattle.tuple_sort.specs.Values.{value_in_packed}
use Rattle.tuple_sort.proofs.ranking.rank_of_packed.Given as goal

abbrev pub invariant-keys : goal.invariant-keys
invariant-keys l = ranked_by (value_in_packed l.source l.members) (order_of (drop l.key-index l.order)) l.a l.b ≡ ranked_by (value_in_packed l.source l.members) (order_of l.order) l.a l.b
