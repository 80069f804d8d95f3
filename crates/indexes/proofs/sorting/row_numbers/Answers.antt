use Rattle.std.proofs.Common.{refl, rules}
use Rattle.indexes.proofs.SortedRows.{one_behind}
use Rattle.indexes.proofs.sorting.row_numbers.Goals as goal

pub loop-row-preserved : goal.loop-row-preserved
loop-row-preserved c = one_behind c.args.first _ _ c.loop-row.row _ _ c.loop-row.auto.row c.loop-row.invariant c.in_ok-push.ensures.items (search rules) refl
