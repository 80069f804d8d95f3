use Rattle.std.proofs.Common.{◌≡◌, map, take}
use Rattle.parse_tree.specs.Trees.{item_of}
use Rattle.parse_tree.specs.declared.expr.Item.{Item as TreeItem}
use Rattle.definitions.specs.Binding.BoundForm.{result_name}
use Rattle.query_rules.specs.Keys.{known_name}
use Rattle.query_rules.proofs.key.listed_names.Given as goal

abbrev pub invariant-listed : goal.invariant-listed
invariant-listed l = map known_name l.names.items ≡ map (λ (i : TreeItem). result_name (item_of i).value (item_of i).alias) (take l.item-index l.list)
