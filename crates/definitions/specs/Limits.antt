-- The limits (all own, but that there are some: ISO/IEC 9075:1992, 4.1).
use Rattle.std.specs.Prelude.{ℕ, ◌^◌}

-- of a script's text: the characters of a name and of a string, the digits of a number
abbrev pub most_name_characters : ℕ
most_name_characters = 18

abbrev pub most_string_characters : ℕ
most_string_characters = 254

abbrev pub most_digits : ℕ
most_digits = 38

-- the levels that parentheses, signs and NOTs may open
abbrev pub most_levels : ℕ
most_levels = 64

-- of types: the precision of a NUMERIC, the length of a CHAR
abbrev pub greatest_precision : ℕ
greatest_precision = 18

abbrev pub greatest_length : ℕ
greatest_length = 254

-- of a database: its tables, and of a table the columns and the rows
abbrev pub most_tables : ℕ
most_tables = 256

abbrev pub most_columns : ℕ
most_columns = 64

abbrev pub most_rows : ℕ
most_rows = 100000000

-- and its indexes, the columns of an index, and the statistics that SET STATISTICS may give
abbrev pub most_indexes : ℕ
most_indexes = 16

abbrev pub most_index_columns : ℕ
most_index_columns = 4

abbrev pub greatest_statistic : ℕ
greatest_statistic = 10 ^ 18

-- of a query: its blocks, and of a block the tables, the items of its select list, the conjuncts of WHERE, the members
-- of an IN list, the columns of GROUP BY, the keys of ORDER BY, and the scale of a number
abbrev pub most_blocks : ℕ
most_blocks = 32

abbrev pub most_from_tables : ℕ
most_from_tables = 14

abbrev pub most_items : ℕ
most_items = 64

abbrev pub most_conjuncts : ℕ
most_conjuncts = 64

abbrev pub most_members : ℕ
most_members = 256

abbrev pub most_group_columns : ℕ
most_group_columns = 16

abbrev pub most_keys : ℕ
most_keys = 16

abbrev pub greatest_scale : ℕ
greatest_scale = 18
