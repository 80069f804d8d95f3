use Rattle.sqlvalue.specs.Meaning.{value_of}
use Rattle.filters.proofs.Coming.{asked}
use Rattle.filters.proofs.search_argument.argument_of.Goals as goal

pub returns-in-Some-clause-same : goal.returns-in-Some-clause-same
returns-in-Some-clause-same g c =
    let e = c.args.context.now in
    let (condition, early, within) = c.requires.early in
    let v = value_of c.in-Some.value in
    asked e.source.now (g.A.OuterRows.combinations e.around.now) c.args.table c.requires.can condition early e.rows.now c.args.comparison within v c.if-table-context.false c.in-Some.ensures
