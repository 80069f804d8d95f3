use Rattle.std.proofs.Common.{◌+◌, ◌*◌, drop}
use Rattle.expr.proofs.RowTruths.{Joined, of_list, part_on}
use Rattle.expr.proofs.row_truths.+row_truths.Given as goal

abbrev pub decreases-told_rows : goal.decreases-told_rows
decreases-told_rows g l = 2 * l.levels

abbrev pub decreases-joined_rows : goal.decreases-joined_rows
decreases-joined_rows g l = 2 * l.levels + 1

-- those so far, with the parts from one on, are of all
abbrev pub invariant-joined_rows-loop-part : goal.invariant-joined_rows-loop-part
invariant-joined_rows-loop-part g l =
    Joined l.all (of_list l.all (part_on (g.S.ManyRows.environment l.rows) l.negated) l.parts) (of_list l.all (part_on (g.S.ManyRows.environment l.rows) l.negated) (drop l.part-index l.others)) l.first l.count l.word
