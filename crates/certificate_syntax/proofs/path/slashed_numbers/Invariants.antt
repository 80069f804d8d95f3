use Rattle.std.proofs.Common.{length}
use Rattle.certificate_syntax.specs.Reading.{SlashedIn}
use Rattle.certificate_syntax.proofs.Lists.{HasRead}
use Rattle.certificate_syntax.proofs.path.slashed_numbers.Given as goal

abbrev pub invariant-numbers : goal.invariant-numbers
invariant-numbers l = HasRead SlashedIn 47 l.fn.text l.numbers.items l.rest

abbrev pub decreases-numbers : goal.decreases-numbers
decreases-numbers l = length l.rest
