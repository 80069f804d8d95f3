use Rattle.subqueries.specs.OuterColumns.{outer_columns_of}
use Rattle.subqueries.proofs.AllParameters.{none_past}
use Rattle.subqueries.proofs.parameters.push_inner.Goals as goal

pub returns-in-None : goal.returns-in-None
returns-in-None c = none_past (outer_columns_of c.args.columns.now.items) c.args.inner.now c.args.number c.in-None.ensures.lookup.3
