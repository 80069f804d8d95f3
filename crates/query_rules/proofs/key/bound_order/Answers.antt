use Rattle.std.proofs.Common.{map}
use Rattle.query_tree.specs.Bound.{item_of}
use Rattle.parse_tree.specs.Trees.{list_of, key_of as tree_key_of}
use Rattle.query_rules.specs.Keys.{names_by}
use Rattle.std.proofs.Common.{map}
use Rattle.query_rules.proofs.Keys.{refused_order}
use Rattle.query_rules.proofs.key.bound_order.Goals as goal

pub returns-clause-refused : goal.returns-clause-refused
returns-clause-refused c = refused_order c.keys_by_names.result (names_by (list_of c.args.list.now) (map item_of c.args.items.now)) (map tree_key_of c.args.order.now) (rw (c.deref.ensures.value, c.in_ok-names.ensures) at c.keys_by_names.ensures.refused)
