use Rattle.columns.specs.Columns.{cells_of}
use Rattle.columns.proofs.Extended.{nothing_added}
use Rattle.columns.proofs.column.Column.extend_from.Goals as goal

pub returns-then-from-to-clause-ok : goal.returns-then-from-to-clause-ok
returns-then-from-to-clause-ok c = nothing_added (cells_of c.args.self.now) _ c.args.from c.args.to c.if-from-to.true
