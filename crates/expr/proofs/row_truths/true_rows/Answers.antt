use Rattle.definitions.specs.Queries.Evaluation as meaning
use Rattle.query_tree.specs.Bound.{condition_of}
use Rattle.expr.proofs.RowTruths.{word_alone}
use Rattle.expr.proofs.row_truths.true_rows.Goals as goal

pub returns : goal.returns
returns g c =
    word_alone c.told_rows.result (λ row. meaning.truth (g.S.ManyRows.environment c.args.rows.now row) (condition_of c.args.condition.now)) c.args.first c.args.count c.told_rows.ensures
