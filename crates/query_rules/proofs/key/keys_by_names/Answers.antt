use Rattle.std.proofs.Common.{refl, ◌+◌, ◌∷◌, [], map, drop}
use Rattle.query_tree.specs.Bound.{key_of}
use Rattle.parse_tree.specs.Trees.{key_of as tree_key_of}
use Rattle.query_rules.specs.Keys.{known_names}
use Rattle.query_rules.proofs.Keys.{KeysLeft, begin_keys, next_key, unknown_key, end_keys, next_key_tree, no_key_tree, pushed_key}
use Rattle.query_rules.proofs.key.keys_by_names.Goals as goal

pub keys-init : goal.keys-init
keys-init c = rw c.new-keys.ensures.items (begin_keys (known_names c.args.names.now) (map tree_key_of c.args.order.now))

pub returns-in_default-clause-refused : goal.returns-in_default-clause-refused
returns-in_default-clause-refused c =
    let left : KeysLeft (known_names c.args.names.now) (map tree_key_of c.args.order.now) (map key_of c.keys.keys.items) (tree_key_of c.key-item.result ∷ (map tree_key_of (drop (c.keys.key-index + 1) c.args.order.now))) = rw (next_key_tree c.args.order.now c.keys.key-index c.key-item.result c.keys-test.true c.key-item.is) at c.keys.invariant in
    (refl, unknown_key (known_names c.args.names.now) (map tree_key_of c.args.order.now) (map tree_key_of (drop (c.keys.key-index + 1) c.args.order.now)) (map key_of c.keys.keys.items) (tree_key_of c.key-item.result) left (c.in_default.ensures.none refl))

pub keys-preserved : goal.keys-preserved
keys-preserved c =
    let left : KeysLeft (known_names c.args.names.now) (map tree_key_of c.args.order.now) (map key_of c.keys.keys.items) (tree_key_of c.key-item.result ∷ (map tree_key_of (drop (c.keys.key-index + 1) c.args.order.now))) = rw (next_key_tree c.args.order.now c.keys.key-index c.key-item.result c.keys-test.true c.key-item.is) at c.keys.invariant in
    rw (c.in_ok-push.ensures.items, pushed_key c.keys.keys.items _) (next_key (known_names c.args.names.now) (map tree_key_of c.args.order.now) (map tree_key_of (drop (c.keys.key-index + 1) c.args.order.now)) (map key_of c.keys.keys.items) (tree_key_of c.key-item.result) c.in-Some.item left c.in-Some.ensures.some c.in-Some.ensures.known)

pub returns-clause-ok : goal.returns-clause-ok
returns-clause-ok c = end_keys (known_names c.args.names.now) (map tree_key_of c.args.order.now) (map key_of c.keys.keys.items) (rw (no_key_tree c.args.order.now c.keys.key-index c.keys-test.false) at c.keys.invariant)

pub returns-clause-known : goal.returns-clause-known
returns-clause-known c = let left : KeysLeft (known_names c.args.names.now) (map tree_key_of c.args.order.now) (map key_of c.keys.keys.items) [] = rw (no_key_tree c.args.order.now c.keys.key-index c.keys-test.false) at c.keys.invariant in left.left
