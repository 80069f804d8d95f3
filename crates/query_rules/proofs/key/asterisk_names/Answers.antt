use Rattle.std.proofs.Common.{◌∙◌, ap, Some, map}
use Rattle.query_tree.specs.Bound.{item_of}
use Rattle.query_tree.specs.declared.block.Item.{Item}
use Rattle.query_rules.specs.Keys.{header_of, known_name}
use Rattle.query_rules.proofs.Keys.{one_more_name, all_names, headers_of}
use Rattle.query_rules.proofs.key.asterisk_names.Goals as goal

pub columns-init : goal.columns-init
columns-init c = ap (map known_name) c.new-names.ensures.items

pub columns-preserved : goal.columns-preserved
columns-preserved c = ap (map known_name) c.in_ok-push.ensures.items ∙ one_more_name (λ (i : Item). header_of (item_of i)) c.args.items.now c.columns.item-index c.item-item.result c.columns.names.items _ c.columns-test.true c.item-item.is (ap Some c.as_str.ensures.value) c.columns.invariant

pub returns : goal.returns
returns c = all_names (λ (i : Item). header_of (item_of i)) c.args.items.now c.columns.item-index c.columns.names.items c.columns-test.false c.columns.invariant ∙ headers_of c.args.items.now
