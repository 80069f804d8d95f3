use Rattle.std.proofs.Common.{◌<◌, ◌*◌, length, rules}
use Rattle.columns.specs.Columns.{cells_of}
use Rattle.indexes.proofs.PagedValues.{one_taken, held_more, in_rows}
use Rattle.std.specs.List.{AllByRecursion}
use Rattle.columns.specs.Starts.{IsHeld}
use Rattle.indexes.proofs.key_column.every.Goals as goal

pub loop-place-preserved : goal.loop-place-preserved
loop-place-preserved c =
    let i = c.loop-place.invariant in
    let e = c.in_ok-push_from.ensures in
    let within : c.loop-place.place * c.args.step < length c.args.rows.now = in_rows c.loop-place.place c.args.step (length c.args.rows.now) c.requires (search rules) in
    let all : AllByRecursion (IsHeld (cells_of c.push_from.new.self).type) (cells_of c.push_from.new.self).values = rw e.ok (held_more _ _ _ i.1 (search rules)) in
    (one_taken _ _ _ c.args.rows.now c.args.step c.loop-place.place _ i.0 (search rules) within e.ok, all)
