use Rattle.definitions.specs.Grammar as g
use Rattle.definitions.proofs.Grammar.{count_alike}
use Rattle.syntax_cursor.proofs.Outcomes.{flat_on, reads_on, reads_not_on, gives, then_fails, no_memory}
use Rattle.syntax_cursor.proofs.Places.{on}
use Rattle.syntax.proofs.Stops.{stops}
use Rattle.syntax.proofs.query.key_name.Goals as goal

pub returns-in_err-name-clause-reads : goal.returns-in_err-name-clause-reads
returns-in_err-name-clause-reads c l k = stops _ _ c.from_residual.ensures.1 (no_memory c.in_err-name.ensures.memory)

pub returns-in-Some-clause-reads : goal.returns-in-Some-clause-reads
unfolding g.KeyNameAt
returns-in-Some-clause-reads c l k = reads_on (rw c.in-Some.is at c.in_ok-name.ensures.ok) gives

pub returns-in-Some-clause-placed : goal.returns-in-Some-clause-placed
returns-in-Some-clause-placed c = rw c.in-Some.is at c.in_ok-name.ensures.placed

pub returns-in_err-position-clause-reads : goal.returns-in_err-position-clause-reads
unfolding g.KeyNameAt
returns-in_err-position-clause-reads c l k = stops _ _ c.from_residual-in_err-position.ensures.1 (reads_not_on (rw c.in_default.is at c.in_ok-name.ensures.ok) (then_fails (c.in_err-position.ensures.reads l k)))

pub returns-clause-reads : goal.returns-clause-reads
unfolding g.KeyNameAt
returns-clause-reads c l k = reads_not_on (rw c.in_default.is at c.in_ok-name.ensures.ok) (flat_on count_alike c.in_ok-position.ensures.reads gives)

pub returns-clause-placed : goal.returns-clause-placed
returns-clause-placed c = on (rw c.in_default.is at c.in_ok-name.ensures.placed) c.in_ok-position.ensures.placed
