-- Result rows that are kept.
use Rattle.std.specs.Prelude.{List, map}
use Rattle.definitions.specs.Table.{Row}
use Rattle.sqlvalue.specs.Owned.{owned_value}
use Rattle.result_lines.specs.declared.result_row.ResultRow.{ResultRow}

abbrev pub row_of : ResultRow → Row
row_of row = map owned_value row.values.items

abbrev pub rows_of : List ResultRow → List Row
rows_of = map row_of
