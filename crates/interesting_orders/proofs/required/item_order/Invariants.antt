use Rattle.std.proofs.Common.{◌≡◌, ◌++◌, drop, map}
use Rattle.std.specs.Prelude.{filter_map, is_some}
use Rattle.std.specs.List.{list_all}
use Rattle.definitions.specs.Estimates.Orders.{sort_key}
use Rattle.query_tree.specs.Bound.{item_of, key_of}
use Rattle.plan_tree.specs.Plans.{order_of}
use Rattle.interesting_orders.proofs.required.item_order.Given as goal

abbrev pub invariant-keys : goal.invariant-keys
invariant-keys l = record {
  exact : order_of l.keys.items ++ filter_map (sort_key (map item_of l.items)) (map key_of (drop l.key-index l.order)) ≡ filter_map (sort_key (map item_of l.items)) (map key_of l.order);
  all : list_all (λ key. is_some (sort_key (map item_of l.items) key)) (map key_of (drop l.key-index l.order)) ≡ list_all (λ key. is_some (sort_key (map item_of l.items) key)) (map key_of l.order);
}
