use Rattle.std.proofs.Common.{rules}
use Rattle.indexes.proofs.Counted.{there_at}
use Rattle.indexes.proofs.KeyCells.{keys_push}
use Rattle.indexes.proofs.key_columns.key_columns.Goals as goal

pub loop-number-preserved : goal.loop-number-preserved
loop-number-preserved c =
    keys_push c.args.columns.now c.args.numbers.now c.loop-number.number-index c.index-columns-number.result c.loop-number.keys.items c.push.new.self.items c.cells.result c.loop-number-test.true c.loop-number.invariant
    (there_at c.args.numbers.now c.loop-number.number-index _ c.requires c.loop-number-test.true) c.index-columns-number.is c.cells.ensures (search rules)
