use Rattle.std.proofs.Common.{◌≡◌, ◌<◌, ◌++◌, ◌-◌, length}
use Rattle.std.specs.Prelude.{filter_map}
use Rattle.std.specs.List.{AllByRecursion, range_with_len}
use Rattle.interesting_orders.specs.Keys.{index_on_column}
use Rattle.interesting_orders.proofs.known.column_indexes.Given as goal

abbrev pub invariant-columns : goal.invariant-columns
invariant-columns l = record {
  exact : l.numbers.items ++ filter_map (index_on_column l.table) (range_with_len l.column (length l.table.columns - l.column)) ≡ filter_map (index_on_column l.table) (range_with_len 0 (length l.table.columns));
  there : AllByRecursion (λ number. number < length l.table.indexes) l.numbers.items;
}
