use Rattle.std.proofs.Common.{◌≡◌, get_or, rules}
use Rattle.definitions_execution.specs.Stored.{row_number}
use Rattle.tuple_sort.proofs.PackedRows.{next_packed}
use Rattle.tuple_sort.proofs.packing.pack.Goals as goal

pub places-preserved : goal.places-preserved
places-preserved g c =
    let read : c.unwrap_or.result ≡ row_number c.args.composite.now (get_or c.args.members.now c.places.place 0) = search rules in
    next_packed (row_number c.args.composite.now) c.args.members.now c.places.rows _ c.places.place g.row.WIDTH c.unwrap_or.result c.places-test.true c.requires.room c.places.invariant read (search rules)
