use Rattle.std.proofs.Common.{◌≡◌, ◌++◌, take}
use Rattle.std.specs.Prelude.{flat_map}
use Rattle.definitions.specs.Printing.{row_line}
use Rattle.sqlvalue.specs.Meaning.{type_of}
use Rattle.result_lines.specs.Batches.{rows_of_units}
use Rattle.result_lines.proofs.unit_lines.write_lines.Given as goal

-- the lines before one are written
abbrev pub invariant-units : goal.invariant-units
invariant-units l = l.out.items ≡ l.fn.out.items ++ flat_map row_line (rows_of_units (type_of l.sql_type) (take l.unit-index l.units))
