use Rattle.std.proofs.Common.{◌∙◌, ap, map}
use Rattle.parse_tree.specs.Trees.{list_of, item_of}
use Rattle.parse_tree.proofs.Views.{of_items}
use Rattle.query_rules.proofs.Keys.{listed_items}
use Rattle.query_rules.proofs.key.column_names.Goals as goal

pub returns-in-Items : goal.returns-in-Items
returns-in-Items c = rw (ap list_of c.in-Items.is ∙ of_items c.in-Items.list, listed_items (map item_of c.in-Items.list.items)) (rw c.deref.ensures.value at c.listed_names.ensures)
