-- The run of an index as a list that can be computed (own).
use Rattle.std.specs.Prelude.{ℕ, List, map}
use Rattle.definitions.specs.Table.{Row}
use Rattle.definitions.specs.Key.{Key, key_of}
use Rattle.definitions.specs.IndexRun.{Entry, entries_from, comes_before, IsRun}
use Rattle.definitions_execution.specs.Lists.{sorted_by}

-- the entries of keys in their order
abbrev pub run_of : List Key → List Entry
run_of keys = sorted_by comes_before (entries_from 0 keys)

-- the keys of a table's rows in the columns of an index
abbrev pub keys_in : List ℕ → List Row → List Key
keys_in columns rows = map (key_of columns) rows

-- they are the run of the index, of which there is only one
abbrev pub RunIsComputed : Type 0
RunIsComputed = (columns : List ℕ) (rows : List Row) → IsRun (keys_in columns rows) (run_of (keys_in columns rows))
