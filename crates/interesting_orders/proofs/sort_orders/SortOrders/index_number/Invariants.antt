use Rattle.std.proofs.Common.{◌≡◌, ◌+◌, drop}
use Rattle.definitions.specs.Plans.Numbering.{number_of}
use Rattle.interesting_orders.specs.Keys.{index_keys}
use Rattle.interesting_orders.proofs.sort_orders.SortOrders.index_number.Given as goal

abbrev pub invariant-orders : goal.invariant-orders
invariant-orders l = l.number + number_of (drop l.number l.self) (index_keys l.table l.columns l.backward) ≡ number_of l.self (index_keys l.table l.columns l.backward)
