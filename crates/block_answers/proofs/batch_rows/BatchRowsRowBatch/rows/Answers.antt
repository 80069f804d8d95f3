use Rattle.std.proofs.Common.{refl}
use Rattle.block_answers.proofs.RunTaking.{column_read}
use Rattle.block_answers.proofs.batch_rows.BatchRowsRowBatch.rows.Goals as goal

pub returns-clause-values : goal.returns-clause-values
returns-clause-values g c column same =
    let r = c.args.self.now in
    column_read r.source.now (g.A.OuterRows.combinations r.around.now) column r.first r.end c.args.table r.batch.now.items _ c.column.result.now same c.column.ensures refl
