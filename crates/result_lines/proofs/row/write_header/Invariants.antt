use Rattle.std.proofs.Common.{◌≡◌, ◌++◌, map, drop}
use Rattle.std.specs.List.{join_with_byte}
use Rattle.definitions.specs.Queries.BoundBlock as b
use Rattle.result_lines.specs.RowAt.{items_of}
use Rattle.result_lines.proofs.Fields.{fields_left}
use Rattle.result_lines.proofs.row.write_header.Given as goal

-- what is written, and what is left, is the whole
abbrev pub invariant-items : goal.invariant-items
invariant-items l =
    l.out.items ++ fields_left l.i (map (λ (i : b.Item). i.name) (items_of (drop l.i l.items)))
    ≡ l.fn.out.items ++ join_with_byte 124 (map (λ (i : b.Item). i.name) (items_of l.items))
