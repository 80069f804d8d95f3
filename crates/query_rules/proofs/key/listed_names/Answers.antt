use Rattle.std.proofs.Common.{◌∙◌, ap, map}
use Rattle.parse_tree.specs.Trees.{item_of}
use Rattle.parse_tree.specs.declared.expr.Item.{Item as TreeItem}
use Rattle.definitions.specs.Binding.BoundForm.{result_name}
use Rattle.query_rules.specs.Keys.{known_name}
use Rattle.query_rules.proofs.Keys.{one_more_name, all_names, result_names_of}
use Rattle.query_rules.proofs.key.listed_names.Goals as goal

pub listed-init : goal.listed-init
listed-init c = ap (map known_name) c.new-names.ensures.items

pub listed-preserved : goal.listed-preserved
listed-preserved c = ap (map known_name) c.in_ok-push.ensures.items ∙ one_more_name (λ (i : TreeItem). result_name (item_of i).value (item_of i).alias) c.args.list.now c.listed.item-index c.item-item.result c.listed.names.items _ c.listed-test.true c.item-item.is (c.column_name.ensures) c.listed.invariant

pub returns : goal.returns
returns c = all_names (λ (i : TreeItem). result_name (item_of i).value (item_of i).alias) c.args.list.now c.listed.item-index c.listed.names.items c.listed-test.false c.listed.invariant ∙ result_names_of c.args.list.now
