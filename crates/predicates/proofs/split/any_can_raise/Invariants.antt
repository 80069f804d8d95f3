use Rattle.std.proofs.Common.{◌≡◌, drop}
use Rattle.std.specs.List.{list_any}
use Rattle.definitions.specs.Queries.CanRaise.{can_raise}
use Rattle.query_tree.specs.Walks.{trees_of}
use Rattle.predicates.proofs.split.any_can_raise.Given as goal

-- it is so of one of those that are left
abbrev pub invariant-values : goal.invariant-values
invariant-values l = list_any can_raise (trees_of (drop l.value-index l.values)) ≡ list_any can_raise (trees_of l.values)
