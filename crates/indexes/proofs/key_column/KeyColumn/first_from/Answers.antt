use Rattle.std.proofs.Common.{◌<◌, ◌+◌, ◌/◌, rules}
use Rattle.columns.specs.Columns.{cells_of}
use Rattle.indexes.proofs.Levels.{column_levels}
use Rattle.indexes.proofs.key_column.KeyColumn.first_from.Goals as goal

pub returns : goal.returns
returns c =
    let more : c.args.within.from / 256 + 1 < c.div_ceil-end.result = search rules in
    column_levels c.args.start.now c.args.self.now (cells_of c.self.inside.values) (cells_of c.self.inside.heads) c.args.within.from c.args.within.to c.first_from-page.result c.max-from.result c.min-to.result c.saturating_mul.result c.div_ceil-end.result c.self.view_is c.requires.inside c.requires.ordered c.self.invariant.heads
    c.div_ceil-end.ensures more c.first_from-page.ensures c.saturating_mul.ensures (search rules) c.max-from.ensures c.min-to.ensures c.first_from-2.result c.first_from-2.ensures
