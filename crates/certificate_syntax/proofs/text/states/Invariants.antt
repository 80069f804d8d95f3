use Rattle.std.proofs.Common.{length, map}
use Rattle.certificate_syntax.specs.Said.{state_said}
use Rattle.certificate_syntax.specs.Reading.{StateIn}
use Rattle.certificate_syntax.proofs.Lists.{HasRead}
use Rattle.certificate_syntax.proofs.text.states.Given as goal

abbrev pub invariant-states : goal.invariant-states
invariant-states l = HasRead StateIn 83 l.fn.text (map state_said l.states.items) l.rest

abbrev pub decreases-states : goal.decreases-states
decreases-states l = length l.rest
