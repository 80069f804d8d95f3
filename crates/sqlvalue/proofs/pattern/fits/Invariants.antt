use Rattle.std.proofs.Common.{length}
use Rattle.sqlvalue.proofs.Likeness.{IsSearch, left}
use Rattle.sqlvalue.proofs.pattern.fits.Given as goal

abbrev pub invariant-loop-at : goal.invariant-loop-at
invariant-loop-at l = IsSearch l.pattern l.text l.at l.last

abbrev pub decreases-loop-at : goal.decreases-loop-at
decreases-loop-at l = left (length l.pattern) (length l.text) l.at l.last
