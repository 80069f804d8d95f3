use Rattle.std.proofs.lemmas.Result.{err_from_is_err_and}
use Rattle.result_lines.proofs.Columns.{column_raises, one_can}
use Rattle.result_lines.proofs.row.evaluate_row.Goals as goal

pub value-requires-clause-fits : goal.value-requires-clause-fits
value-requires-clause-fits g c =
    (one_can (g.S.Environment.environment c.args.env.now) c.args.items.now c.items.i c.index-items-i.result c.items-test.true c.index-items-i.is c.requires).fits

pub value-requires-clause-typed : goal.value-requires-clause-typed
value-requires-clause-typed g c =
    (one_can (g.S.Environment.environment c.args.env.now) c.args.items.now c.items.i c.index-items-i.result c.items-test.true c.index-items-i.is c.requires).typed

pub returns-in_err-_value-clause-raised : goal.returns-in_err-_value-clause-raised
returns-in_err-_value-clause-raised g c =
    let e = err_from_is_err_and c.from_residual.result c.from_residual.ensures.1 in
    rw (e.1, e.2)
    (column_raises (g.S.Environment.environment c.args.env.now) c.args.items.now c.items.i c.index-items-i.result c.items-test.true c.index-items-i.is _ c.items.invariant c.in_err-_value.ensures)
