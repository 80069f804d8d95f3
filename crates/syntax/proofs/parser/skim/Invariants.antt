use Rattle.std.proofs.Common.{◌-◌, length}
use Rattle.syntax.proofs.Scripts.{Skimmed}
use Rattle.syntax.proofs.parser.skim.Given as goal

abbrev pub invariant-statements : goal.invariant-statements
invariant-statements l = Skimmed l.fn.cursor l.cursor

abbrev pub decreases-statements : goal.decreases-statements
decreases-statements l = length l.cursor.tokens - l.cursor.at
