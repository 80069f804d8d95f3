use Rattle.std.proofs.Common.{◌≡◌, ◌++◌, drop}
use Rattle.std.specs.Prelude.{flat_map}
use Rattle.definitions.specs.Queries.Conjuncts.{blocks_in}
use Rattle.query_tree.specs.Walks.{trees_of}
use Rattle.subqueries.proofs.block_text.push_inner.Given as goal

abbrev pub invariant-values : goal.invariant-values
invariant-values l = l.blocks.items ++ flat_map blocks_in (trees_of (drop l.value-index l.value-items)) ≡ l.fn.blocks.items ++ flat_map blocks_in (trees_of l.value-items)
