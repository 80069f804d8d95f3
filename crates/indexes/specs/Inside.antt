-- What an index keeps.
use Rattle.std.specs.Prelude.{ℤ, ◌≡◌, List, Option, filter_map, length, option_map, slice_index_or}
use Rattle.definitions.specs.Value.{Null}
use Rattle.definitions.specs.Key.{Key}
use Rattle.definitions.specs.IndexRun.{IsRun}
use Rattle.definitions.specs.Statistics.{range_of, units_of}
use Rattle.indexes.specs.Indexes.{StoredIndex}
use Rattle.indexes.specs.Orders.{is_unique, run_of}
use Rattle.indexes.specs.Meaning.{index_statistics_of, key_range_of}
use Rattle.indexes.specs.declared.index.Index.TheInside.{Inside}

abbrev pub stored_index : Inside → StoredIndex
stored_index i = record {
  index = record {
    columns = i.columns.items;
    unique = is_unique i.order;
    statistics =
        index_statistics_of i.statistics;
  };
  entries = (run_of i.order).entries;
}

-- the number that a key begins with
abbrev pub first_units : Key → Option ℤ
first_units key = units_of (slice_index_or key 0 Null)

-- the order is one of keys of as many columns, and the range that of the keys that it is a run of
pub record IsStoredIndex (i : Inside) : Type 0 where
  pub wide : length (run_of i.order).types ≡ length i.columns.items
  pub ranged : (keys : List Key) → IsRun keys (run_of i.order).entries → option_map key_range_of i.range
      ≡ range_of (filter_map first_units keys)
