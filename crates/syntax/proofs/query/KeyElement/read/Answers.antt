use Rattle.definitions.specs.Grammar as g
use Rattle.definitions.proofs.Grammar.{key_name_alike, direction_alike}
use Rattle.syntax_cursor.proofs.Outcomes.{flat_on, gives, then_fails}
use Rattle.syntax_cursor.proofs.Places.{no_more}
use Rattle.syntax.proofs.Stops.{stops}
use Rattle.syntax.proofs.query.KeyElement.read.Goals as goal

pub returns-in_err-name-clause-reads : goal.returns-in_err-name-clause-reads
unfolding g.KeyAt
returns-in_err-name-clause-reads c l k = stops _ _ c.from_residual.ensures.1 (then_fails (c.in_err-name.ensures.reads l k))

pub returns-clause-reads : goal.returns-clause-reads
unfolding g.KeyAt
returns-clause-reads c l k = flat_on key_name_alike c.in_ok-name.ensures.reads (flat_on direction_alike c.is_descending-descending.ensures.reads gives)

pub returns-clause-placed : goal.returns-clause-placed
returns-clause-placed c = no_more c.in_ok-name.ensures.placed c.is_descending-descending.ensures.placed
