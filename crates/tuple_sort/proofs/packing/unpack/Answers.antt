use Rattle.filters.specs.Composites.{numbers_in}
use Rattle.tuple_sort.specs.Packing.{row_in}
use Rattle.tuple_sort.proofs.PackedRows.{next_unpacked}
use Rattle.tuple_sort.proofs.packing.unpack.Goals as goal

pub tables-preserved : goal.tables-preserved
tables-preserved c =
    let width = c.args.width in
    next_unpacked (row_in c.args.members.now c.args.rows.now) (numbers_in width c.tables.composite) (numbers_in width c.with-composite.result) c.tables.table width c.row_in.result c.tables-test.true c.tables.invariant c.row_in.ensures (c.with-composite.ensures width c.tables-test.true)
