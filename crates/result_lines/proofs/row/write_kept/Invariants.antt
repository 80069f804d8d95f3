use Rattle.std.proofs.Common.{◌≡◌, ◌++◌, map, drop}
use Rattle.std.specs.List.{join_with_byte}
use Rattle.definitions.specs.Printing.{value_text}
use Rattle.sqlvalue.specs.Owned.{owned_value}
use Rattle.result_lines.proofs.Fields.{fields_left}
use Rattle.result_lines.proofs.row.write_kept.Given as goal

-- what is written, and what is left, is the whole
abbrev pub invariant-values : goal.invariant-values
invariant-values l =
    l.out.items ++ fields_left l.i (map value_text (map owned_value (drop l.i l.row.values.items)))
    ≡ l.fn.out.items ++ join_with_byte 124 (map value_text (map owned_value l.row.values.items))
