use Rattle.std.proofs.Common.{refl}
use Rattle.block_answers.proofs.kept_rows.KeptRows.new.Goals as goal

pub returns-clause-told : goal.returns-clause-told
returns-clause-told c source outer inner same = record { quiet = refl; told = c.in_ok-to_keep.ensures.told source outer same }
