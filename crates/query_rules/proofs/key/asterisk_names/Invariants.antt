use Rattle.std.proofs.Common.{◌≡◌, map, take}
use Rattle.query_tree.specs.Bound.{item_of}
use Rattle.query_tree.specs.declared.block.Item.{Item}
use Rattle.query_rules.specs.Keys.{header_of, known_name}
use Rattle.query_rules.proofs.key.asterisk_names.Given as goal

abbrev pub invariant-columns : goal.invariant-columns
invariant-columns l = map known_name l.names.items ≡ map (λ (i : Item). header_of (item_of i)) (take l.item-index l.items)
