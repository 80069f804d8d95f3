use Rattle.std.proofs.Common.{◌≡◌, ◌++◌, drop}
use Rattle.std.specs.Prelude.{flat_map}
use Rattle.definitions.specs.Queries.Conjuncts.{blocks_of}
use Rattle.query_tree.specs.Walks.{conditions_in}
use Rattle.subqueries.proofs.block_text.blocks_asked.Given as goal

-- with those of the conditions that are left, it is all of them
abbrev pub invariant-conditions : goal.invariant-conditions
invariant-conditions l = l.blocks.items ++ flat_map blocks_of (conditions_in (drop l.condition-index l.conditions)) ≡ flat_map blocks_of (conditions_in l.conditions)
