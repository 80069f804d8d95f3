use Rattle.std.proofs.Common.{◌≡◌, ◌<◌, ◌++◌, ◌-◌, length}
use Rattle.std.specs.List.{AllByRecursion, range_with_len}
use Rattle.interesting_orders.proofs.known.all_indexes.Given as goal

abbrev pub invariant-indexes : goal.invariant-indexes
invariant-indexes l = record {
  exact : l.numbers.items ++ range_with_len l.number (length l.table.indexes - l.number) ≡ range_with_len 0 (length l.table.indexes);
  there : AllByRecursion (λ number. number < length l.table.indexes) l.numbers.items;
}
