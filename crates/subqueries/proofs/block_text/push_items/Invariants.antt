use Rattle.std.proofs.Common.{◌≡◌, ◌++◌, drop}
use Rattle.subqueries.specs.BlockText.{item_values}
use Rattle.query_tree.specs.Walks.{trees_of}
use Rattle.subqueries.proofs.block_text.push_items.Given as goal

abbrev pub invariant-items : goal.invariant-items
invariant-items l = trees_of l.values.items ++ item_values (drop l.item-index l.items) ≡ trees_of l.fn.values.items ++ item_values l.items
