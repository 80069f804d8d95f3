use Rattle.filters.proofs.NullRows.{both_unknown}
use Rattle.filters.proofs.nulls.null_rows.Goals as goal

pub returns : goal.returns
returns c = both_unknown c.args.source.now c.args.table c.args.column c.args.first c.args.count c.unknown_rows.result c.unknown_rows-2.result _ _ _ c.unknown_rows.ensures c.unknown_rows-2.ensures
