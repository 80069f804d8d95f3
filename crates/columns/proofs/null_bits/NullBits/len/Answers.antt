use Rattle.columns.proofs.NullFlags.{rows_counted}
use Rattle.columns.proofs.null_bits.NullBits.len.Goals as goal

pub returns : goal.returns
returns c = rows_counted c.self.inside.words.items _ _ c.self.view_is
