use Rattle.std.proofs.Common.{◌≡◌, ◌++◌, drop, map}
use Rattle.query_tree.specs.Walks.{conditions_in}
use Rattle.predicates.specs.Parts.{condition_in}
use Rattle.predicates.proofs.split.conjuncts.Given as goal

-- with the conditions that are left, they are all
abbrev pub invariant-conditions : goal.invariant-conditions
invariant-conditions l = map condition_in l.conjuncts.items ++ conditions_in (drop l.condition-index l.condition-items) ≡ conditions_in l.condition-items
