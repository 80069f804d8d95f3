-- Worked examples of small tables. No claim rests on them.
use Rattle.std.proofs.Common.{refl}
use Rattle.definitions.specs.Examples.Tables.{StatisticsOfTables, StatisticsOfIndexes, SizesOfRows}

pub statistics_of_tables : StatisticsOfTables
statistics_of_tables = record {
  three_rows_on_a_page = refl;
  a_unique_column_has_an_index = refl;
  statistics_stay = refl;
  statistics_are_counted_anew = refl;
}

pub statistics_of_indexes : StatisticsOfIndexes
statistics_of_indexes = record {
  nulls_are_no_keys = refl;
  falling_keys = refl;
  a_null_behind_a_key_falls = refl;
  no_rows_take_a_page = refl;
  nulls_have_no_range = refl;
  texts_have_no_range = refl;
  ranges_are_in_units = refl;
  keys_of_three_columns = refl;
  the_first_column_has_the_range = refl;
}

pub sizes_of_rows : SizesOfRows
sizes_of_rows = record {
  rows_take_21_bytes = refl;
  entries_take_13_bytes = refl;
  a_full_page = refl;
  a_second_page = refl;
  a_page_of_nothing = refl;
}
