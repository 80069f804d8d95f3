use Rattle.std.proofs.Common.{◌≡◌, ◌-◌, ◌≤◌, length, map}
use Rattle.plan_tree.specs.Sets.{set_of}
use Rattle.interesting_orders.specs.Sorts.{open_orders, tables_of_use}
use Rattle.interesting_orders.proofs.sorts.SortsIterator.next.Given as goal

abbrev pub invariant-orders : goal.invariant-orders
invariant-orders l = record {
  few : length l.self-inside.rest.now ≤ l.self-inside.count;
  same : open_orders (set_of l.self-inside.tables) (l.self-inside.count - length l.self-inside.rest.now) (map tables_of_use l.self-inside.rest.now) ≡ l.fn.self;
}

abbrev pub decreases-orders : goal.decreases-orders
decreases-orders l = length l.self-inside.rest.now
