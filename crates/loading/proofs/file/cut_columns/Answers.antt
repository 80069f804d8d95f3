use Rattle.loading.proofs.Pushing.{cut_more}
use Rattle.loading.proofs.file.cut_columns.Goals as goal

pub loop-column-preserved : goal.loop-column-preserved
loop-column-preserved c =
    cut_more c.args.columns.now c.loop-column.columns c.args.rows c.loop-column.column-index _ c.column-item.result c.loop-column.invariant c.loop-column-test.true c.truncate.ensures
