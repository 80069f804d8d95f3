-- The statistics of a table and of an index, counted over the rows (own, after Selinger et al. 1979, section 4, whose
-- names stand beside them).
use Rattle.std.specs.Prelude.{ℕ, ℤ, ◌+◌, ◌*◌, max, Bool, true, not, ◌&&◌, List, [], ◌∷◌, Option, Some, None, length}
use Rattle.std.specs.Prelude.{map, filter_map, fold, slice_get, sum_by, option_map, unwrap_or}
use Rattle.std.specs.Int.{div_ceil, int_min, int_max}
use Rattle.std.specs.Ordering.{is_gt}
use Rattle.definitions.specs.Value.{Value, Number, SqlType, Smallint, Integer, Numeric, Char}
use Rattle.definitions.specs.Table.{Column, Row, TableStatistics, KeyRange, IndexStatistics, Index, Table}
use Rattle.definitions.specs.Key.{Key, key_of, key_rank, value_at, full_keys, distinct_keys}

-- how many bytes a value takes (own)
abbrev pub bytes_of : SqlType → ℕ
bytes_of Smallint = 2
bytes_of Integer = 4
bytes_of (Numeric p s) = 8
bytes_of (Char n) = n

abbrev pub bytes_at : List Column → ℕ → ℕ
bytes_at columns number = unwrap_or (option_map (λ (c : Column). bytes_of c.type) (slice_get columns number)) 0

-- a row takes 8 bytes and those of its columns, and so does an entry of an index
abbrev pub row_width : List Column → ℕ
row_width columns = 8 + sum_by (λ (c : Column). bytes_of c.type) columns

abbrev pub entry_width : List Column → List ℕ → ℕ
entry_width columns numbers = 8 + sum_by (bytes_at columns) numbers

-- pages of 4096 bytes, and one where there is nothing
abbrev pub pages_for : ℕ → ℕ → ℕ
pages_for count width = max 1 (div_ceil (count * width) 4096)

-- NCARD and TCARD
abbrev pub table_statistics : List Column → List Row → TableStatistics
table_statistics columns rows = record { rows = length rows; pages = pages_for (length rows) (row_width columns) }

-- keys that don't fall from one row to the next
abbrev pub rises_from : Key → List Key → Bool
rises_from key [] = true
rises_from key (next ∷ keys) = not (is_gt (key_rank key next)) && rises_from next keys

abbrev pub never_falls : List Key → Bool
never_falls [] = true
never_falls (key ∷ keys) = rises_from key keys

-- the least and the greatest of the numbers of a column; it has none where all are null, and a text column has none
abbrev pub units_of : Value → Option ℤ
units_of (Number units scale) = Some units
units_of _ = None

abbrev pub range_of : List ℤ → Option KeyRange
range_of [] = None
range_of (u ∷ us) = Some (record { low = fold int_min u us; high = fold int_max u us })

abbrev pub first_numbers : List ℕ → List Row → List ℤ
first_numbers [] rows = []
first_numbers (column ∷ columns) rows = filter_map (λ row. units_of (value_at row column)) rows

-- ICARD, NINDX, whether the index is clustered, and its range
abbrev pub index_statistics : List Column → List Row → List ℕ → IndexStatistics
index_statistics columns rows numbers = record {
  keys = length (distinct_keys (full_keys (map (key_of numbers) rows)));
  pages = pages_for (length rows) (entry_width columns numbers);
  clustered = never_falls (map (key_of numbers) rows);
  range = range_of (first_numbers numbers rows);
}

-- a table with all its statistics counted over its rows
abbrev pub counted_statistics : Table → Table
counted_statistics t = record t {
  statistics = table_statistics t.columns t.rows;
  indexes = map (λ (i : Index). record i { statistics = index_statistics t.columns t.rows i.columns }) t.indexes;
}
