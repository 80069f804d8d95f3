use Rattle.query_tree.specs.Bound.{value_of as tree_of}
use Rattle.sqlvalue.specs.Meaning.{value_of}
use Rattle.filters.proofs.Coming.{one_fits, one_typed, told_value}
use Rattle.filters.proofs.search_argument.other_value.Goals as goal

pub value-requires-clause-fits : goal.value-requires-clause-fits
value-requires-clause-fits g c =
    let e = c.args.context.now in
    let (condition, early, within) = c.requires.early in
    one_fits e.source.now (g.A.OuterRows.combinations e.around.now) c.args.table c.requires.can condition early e.rows.now (tree_of c.args.comparison.other.now) within.held

pub value-requires-clause-typed : goal.value-requires-clause-typed
value-requires-clause-typed g c =
    let e = c.args.context.now in
    let (condition, early, within) = c.requires.early in
    one_typed e.source.now (g.A.OuterRows.combinations e.around.now) c.args.table c.requires.can condition early e.rows.now (tree_of c.args.comparison.other.now) within.held

pub returns-in-Ok : goal.returns-in-Ok
returns-in-Ok g c =
    told_value _ (value_of c.in-Ok.value) c.in-Ok.ensures
