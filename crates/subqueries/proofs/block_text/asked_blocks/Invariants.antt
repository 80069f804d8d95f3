use Rattle.std.proofs.Common.{◌≡◌, ◌++◌, drop}
use Rattle.std.specs.Prelude.{flat_map}
use Rattle.definitions.specs.Queries.Conjuncts.{blocks_in}
use Rattle.query_tree.specs.Walks.{trees_of}
use Rattle.subqueries.proofs.block_text.asked_blocks.Given as goal

abbrev pub invariant-values : goal.invariant-values
invariant-values l = l.asked.items ++ flat_map blocks_in (trees_of (drop l.value-index l.values)) ≡ flat_map blocks_in (trees_of l.values)
