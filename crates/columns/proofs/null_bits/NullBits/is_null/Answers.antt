use Rattle.std.proofs.Common.{◌<◌, ◌/◌, length, arith}
use Rattle.columns.proofs.NullFlags.{rows_counted, null_read}
use Rattle.columns.proofs.null_bits.NullBits.is_null.Goals as goal

pub index-requires : goal.index-requires
index-requires c =
    let n = c.self.inside in
    omega (arith, n.words.ok.0, rows_counted n.words.items n.len _ c.self.view_is, c.self.invariant.enough)

pub returns : goal.returns
returns c =
    let n = c.self.inside in
    let counted = rows_counted n.words.items n.len _ c.self.view_is in
    let row_within : c.args.row < n.len = omega (arith, counted) in
    let word_within : c.args.row / 64 < length n.words.items = omega (arith, c.self.invariant.enough) in
    null_read n.words.items n.len c.args.row c.index.result.now _ c.self.view_is row_within word_within c.index.ensures
