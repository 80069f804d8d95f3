use Rattle.std.proofs.Common.{map, drop}
use Rattle.query_tree.specs.Bound.{key_of}
use Rattle.parse_tree.specs.Trees.{key_of as tree_key_of}
use Rattle.query_rules.specs.Keys.{known_names}
use Rattle.query_rules.proofs.Keys.{KeysLeft}
use Rattle.query_rules.proofs.key.keys_by_names.Given as goal

abbrev pub invariant-keys : goal.invariant-keys
invariant-keys l = KeysLeft (known_names l.names) (map tree_key_of l.order) (map key_of l.keys.items) (map tree_key_of (drop l.key-index l.order))
