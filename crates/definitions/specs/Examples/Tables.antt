-- Worked examples: the statistics of small tables.
use Rattle.std.specs.Prelude.{◌≡◌, ℕ, List, [], ◌∷◌, Option, Some, None, Bool, true, false, map}
use Rattle.std.specs.Prelude.{codes, pos, neg_ℤ, ℤ}
use Rattle.definitions.specs.Value.{Value, Null, Number, Text, SqlType, Integer, Numeric, Smallint, Char}
use Rattle.definitions.specs.Statement.{Nullable, Unique}
use Rattle.definitions.specs.Table.{Column, Row, KeyRange, IndexStatistics, Table}
use Rattle.definitions.specs.Statistics.{pages_for, row_width, entry_width, index_statistics}
use Rattle.definitions.specs.Change.{new_table, with_rows, with_index, with_table_statistics}

abbrev pub number : ℕ → Value
number n = Number (pos n) 0

abbrev pub text : List ℕ → Value
text cs = Text cs

abbrev pub column : SqlType → Column
column type = record { name = codes "A"; type = type; constraint = Nullable }

abbrev pub statistics_with : ℕ → ℕ → Bool → Option KeyRange → IndexStatistics
statistics_with keys pages clustered range = record { keys = keys; pages = pages; clustered = clustered; range = range }

abbrev pub from_to : ℤ → ℤ → Option KeyRange
from_to low high = Some (record { low = low; high = high })

-- T (A INTEGER NOT NULL UNIQUE) with 1, 2, 3
abbrev pub one_two_three : Table
one_two_three =
    with_rows (new_table (codes "T") (record {
      name = codes "A";
      type = Integer;
      constraint = Unique;
    } ∷ [])) ((number 1 ∷ []) ∷ (number 2 ∷ []) ∷ (number 3 ∷ []) ∷ [])

-- an index on rows of one value
abbrev pub statistics_of : SqlType → List Value → IndexStatistics
statistics_of type values = index_statistics (column type ∷ []) (map (λ v. v ∷ []) values) (0 ∷ [])

-- of a table: as they are counted, and as they are set
pub record StatisticsOfTables : Type 0 where
  pub three_rows_on_a_page : one_two_three.statistics ≡ record { rows = 3; pages = 1 }
  pub a_unique_column_has_an_index : one_two_three.indexes ≡ record {
    columns = 0 ∷ [];
    unique = true;
    statistics = statistics_with 3 1 true (from_to (pos 1) (pos 3));
  } ∷ []
  -- a further index leaves what was set
  pub statistics_stay : (with_index (with_table_statistics one_two_three (record {
    rows = 1000;
    pages = 50;
  })) false (0 ∷ 0 ∷ [])).statistics ≡ record { rows = 1000; pages = 50 }
  -- and LOAD counts anew
  pub statistics_are_counted_anew : (with_rows (with_table_statistics one_two_three (record {
    rows = 1000;
    pages = 50;
  })) ((number 9 ∷ []) ∷ [])).statistics ≡ record { rows = 4; pages = 1 }

-- an index on B, A, C of (1.5, 'b', 1), (NULL, 'a', 1), (1.5, 'b', 1), (-2.0, 'b', NULL), (1.5, 'b', 7): the second and
-- the fourth key have a null, and the second ranks before the first
abbrev pub three_columns : List Column
three_columns = column (Numeric 4 1) ∷ column (Char 3) ∷ column Smallint ∷ []

abbrev pub five_rows : List Row
five_rows =
    (Number (pos 15) 1 ∷ text (codes "b  ") ∷ number 1 ∷ []) ∷ (Null ∷ text (codes "a  ") ∷ number 1 ∷ []) ∷
    (Number (pos 15) 1 ∷ text (codes "b  ") ∷ number 1 ∷ []) ∷
    (Number (neg_ℤ (pos 20)) 1 ∷ text (codes "b  ") ∷ Null ∷ [])
    ∷ (Number (pos 15) 1 ∷ text (codes "b  ") ∷ number 7 ∷ []) ∷ []

-- of indexes
pub record StatisticsOfIndexes : Type 0 where
  -- a null is no key and ranks first, and of two equal keys one counts
  pub nulls_are_no_keys : statistics_of Integer (Null ∷ number 1 ∷ number 1 ∷ [])
      ≡ statistics_with 1 1 true (from_to (pos 1) (pos 1))
  pub falling_keys : statistics_of Integer (number 2 ∷ number 1 ∷ [])
      ≡ statistics_with 2 1 false (from_to (pos 1) (pos 2))
  pub a_null_behind_a_key_falls : statistics_of Integer (number 1 ∷ Null ∷ [])
      ≡ statistics_with 1 1 false (from_to (pos 1) (pos 1))
  pub no_rows_take_a_page : statistics_of Integer [] ≡ statistics_with 0 1 true None
  pub nulls_have_no_range : statistics_of Integer (Null ∷ Null ∷ []) ≡ statistics_with 0 1 true None
  pub texts_have_no_range : statistics_of (Char 2) (text (codes "ab") ∷ text (codes "cd") ∷ [])
      ≡ statistics_with 2 1 true None
  -- -2.0 and 1.5 in NUMERIC(4,1)
  pub ranges_are_in_units : statistics_of (Numeric 4 1) (Number (pos 15) 1 ∷ Number (neg_ℤ (pos 20)) 1 ∷ [])
      ≡ statistics_with 2 1 false (from_to (neg_ℤ (pos 20)) (pos 15))
  pub keys_of_three_columns : index_statistics three_columns five_rows (1 ∷ 0 ∷ 2 ∷ []) ≡ statistics_with 2 1 false None
  pub the_first_column_has_the_range : index_statistics three_columns five_rows (0 ∷ 1 ∷ 2 ∷ [])
      ≡ statistics_with 2 1 false (from_to (neg_ℤ (pos 20)) (pos 15))

-- how many bytes rows take, and how many pages
pub record SizesOfRows : Type 0 where
  -- 8 bytes beside the columns' 8, 3 and 2
  pub rows_take_21_bytes : row_width three_columns ≡ 21
  pub entries_take_13_bytes : entry_width three_columns (1 ∷ 2 ∷ []) ≡ 13
  -- 256 rows of 16 bytes fill a page
  pub a_full_page : pages_for 256 16 ≡ 1
  pub a_second_page : pages_for 257 16 ≡ 2
  pub a_page_of_nothing : pages_for 0 16 ≡ 1
