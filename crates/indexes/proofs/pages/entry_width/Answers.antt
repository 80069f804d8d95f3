use Rattle.std.proofs.Common.{ap, arith}
use Rattle.definitions.specs.Statistics.{bytes_of}
use Rattle.indexes.proofs.Counted.{wider_entry, there_at}
use Rattle.indexes.proofs.pages.entry_width.Goals as goal

pub loop-number-preserved : goal.loop-number-preserved
loop-number-preserved c =
    let there = there_at c.args.numbers.now c.loop-number.number-index _ c.requires.there c.loop-number-test.true in
    let wider = wider_entry c.args.columns.now c.args.numbers.now c.loop-number.number-index c.index-columns-number.result c.loop-number-test.true there c.index-columns-number.is in
    record {
      exact = omega (arith, c.loop-number.invariant.exact, c.value_bytes-width.ensures.exact, ap bytes_of c.sql_type.ensures, wider);
      bound = omega (arith, c.loop-number.invariant.bound, c.value_bytes-width.ensures.bound);
    }
