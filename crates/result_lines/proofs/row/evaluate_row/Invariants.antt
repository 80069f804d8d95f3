use Rattle.std.proofs.Common.{◌≡◌, drop}
use Rattle.result_lines.specs.RowAt.{items_of, row_raises_in}
use Rattle.result_lines.proofs.row.evaluate_row.Given as goal

-- none so far raises
abbrev pub invariant-items : goal.invariant-items
invariant-items g l =
    row_raises_in (g.S.Environment.environment l.env) (items_of (drop l.i l.items))
    ≡ row_raises_in (g.S.Environment.environment l.env) (items_of l.items)
