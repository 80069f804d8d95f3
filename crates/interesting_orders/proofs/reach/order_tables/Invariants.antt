use Rattle.std.proofs.Common.{◌≡◌, Some, drop}
use Rattle.std.specs.Prelude.{option_map}
use Rattle.definitions.specs.Plans.TableSet.{no_tables}
use Rattle.plan_tree.specs.Plans.{order_of}
use Rattle.plan_tree.specs.Sets.{set_of}
use Rattle.interesting_orders.specs.Reach.{key_tables}
use Rattle.interesting_orders.proofs.reach.order_tables.Given as goal

abbrev pub invariant-keys : goal.invariant-keys
invariant-keys l = key_tables (option_map set_of l.tables) (order_of (drop l.key-index l.order)) ≡ key_tables (Some no_tables) (order_of l.order)
