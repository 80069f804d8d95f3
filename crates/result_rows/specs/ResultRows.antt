-- What is kept of the rows of an answer, and what is printed of them at their end.
use Rattle.std.specs.Prelude.{ℕ, ℤ, ◌≡◌, ◌++◌, Bool, true, is_some, List, IsPermutation, IsSorted, IfSome, flat_map, length, map}
use Rattle.std.specs.List.{AllByRecursion}
use Rattle.definitions.specs.Table.{Row}
use Rattle.definitions.specs.Printing.{fields_line, row_line}
use Rattle.definitions.specs.Queries.Answer.{distinct_rows}
use Rattle.definitions.specs.Queries.BoundBlock.{OrderKey}
use Rattle.definitions.specs.Queries.Evaluation.{column_values}
use Rattle.definitions.specs.Lists.{without_repeats}
use Rattle.definitions.specs.Queries.Grouping.{same_values}
use Rattle.definitions.specs.Queries.Outcomes.{row_order}
use Rattle.definitions_answers.specs.Told.{values_asked}
use Rattle.definitions_answers.specs.Lines.{IsInBounds}
use Rattle.definitions_answers.specs.Shapes.{Shape, HasShapes}
use Rattle.sqlvalue.specs.Owned.{owned_value}
use Rattle.result_lines.specs.Lines.{has_line, lines_of, number_line}
use Rattle.result_lines.specs.Rows.{rows_of}
use Rattle.result_lines.specs.SeenUnits.{has_unit}
use Rattle.result_rows.specs.declared.any_row.AnyRow.{AnyRow}
use Rattle.result_lines.specs.declared.lines.DistinctLines.{DistinctLines}
use Rattle.result_rows.specs.declared.printed_rows.PrintedRows.{PrintedRows}
use Rattle.result_rows.specs.declared.distinct_rows.DistinctRows.{DistinctRows}
use Rattle.result_rows.specs.declared.ordered_rows.OrderedRows.{OrderedRows}
use Rattle.result_rows.specs.declared.first_value_rows.FirstValueRows.{FirstValueRows}

-- printed as they come
pub record HasPrinted (names : List (List ℕ)) (rows : List Row) (p : PrintedRows) : Type 0 where
  pub text : p.text.items ≡ fields_line names ++ flat_map row_line rows
  pub count : p.count ≡ length rows

-- lines are those of rows, each once, where the rows have shapes; numbers of all rows have at most 38 digits
pub record AreLinesOf (rows : List Row) (lines : DistinctLines) : Type 0 where
  pub each : (shapes : List Shape) → AllByRecursion (HasShapes shapes) rows
      → lines_of lines ≡ map row_line (without_repeats same_values rows)
  pub bounded : AllByRecursion (AllByRecursion IsInBounds) rows

-- printed once each; what is remembered of numbers, at their scale, was printed
pub record HasDistinct (names : List (List ℕ)) (rows : List Row) (d : DistinctRows) : Type 0 where
  pub header : d.header.items ≡ fields_line names
  pub lines : AreLinesOf rows d.lines
  pub seen : (unit : ℤ) → has_unit d.seen unit ≡ true → has_line (lines_of d.lines) (number_line d.scale unit) ≡ true

-- kept to be ordered, under DISTINCT each once
pub record HasOrdered (names : List (List ℕ)) (rows : List Row) (o : OrderedRows) : Type 0 where
  pub header : o.header.items ≡ fields_line names
  pub kept : (shapes : List Shape) → AllByRecursion (HasShapes shapes) rows
      → rows_of o.rows.items ≡ distinct_rows (is_some o.seen) rows
  pub seen : IfSome o.seen (AreLinesOf rows)

-- the first value of each is kept, under DISTINCT of each that did not come before
pub record HasFirstValues (rows : List Row) (f : FirstValueRows) : Type 0 where
  pub kept : (shapes : List Shape) → AllByRecursion (HasShapes shapes) rows
      → map owned_value f.values.items ≡ column_values (distinct_rows (is_some f.seen) rows)
  pub seen : IfSome f.seen (AreLinesOf rows)

-- whether there is any
abbrev pub HasAnyRow : List Row → AnyRow → Type 0
HasAnyRow rows a = map owned_value a.values.items ≡ values_asked true rows

-- rows are arranged by the keys
pub record AreArranged (distinct : Bool) (keys : List OrderKey) (rows printed : List Row) : Type 0 where
  pub same : IsPermutation (distinct_rows distinct rows) printed
  pub sorted : IsSorted (row_order keys) printed
