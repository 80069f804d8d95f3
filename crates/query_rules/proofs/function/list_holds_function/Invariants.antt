use Rattle.std.proofs.Common.{◌≡◌, flat_map, map, drop}
use Rattle.std.specs.List.{list_any}
use Rattle.definitions.specs.Grammar.{items}
use Rattle.definitions.specs.Statement.{Listed}
use Rattle.definitions.specs.Binding.Parts.{is_function, item_values, parts}
use Rattle.parse_tree.specs.Trees.{item_of, list_of}
use Rattle.query_rules.proofs.function.list_holds_function.Given as goal

abbrev pub invariant-items : goal.invariant-items
invariant-items l = list_any is_function (flat_map parts (item_values (list_of l.list))) ≡ list_any is_function (flat_map parts (item_values (Listed (items (map item_of (drop l.item-index l.item-items))))))
