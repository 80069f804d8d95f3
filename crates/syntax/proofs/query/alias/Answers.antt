use Rattle.definitions.proofs.Grammar.{name_alike}
use Rattle.syntax_cursor.proofs.Outcomes.{flat_on, misses_on, if_on, gives, then_fails}
use Rattle.syntax_cursor.proofs.Places.{here, on, stays, past}
use Rattle.std.proofs.Common.{refl}
use Rattle.syntax.proofs.Stops.{stops}
use Rattle.syntax.proofs.query.alias.Goals as goal

pub returns-then-not-eat_word-clause-reads : goal.returns-then-not-eat_word-clause-reads
returns-then-not-eat_word-clause-reads c l k = misses_on c.if-not-eat_word.ensures gives

pub returns-then-not-eat_word-clause-placed : goal.returns-then-not-eat_word-clause-placed
returns-then-not-eat_word-clause-placed c = stays here c.if-not-eat_word.ensures.1

pub returns-in_err-name-clause-reads : goal.returns-in_err-name-clause-reads
returns-in_err-name-clause-reads c l k = stops _ _ c.from_residual.ensures.1 (if_on c.if-not-eat_word.ensures (then_fails (c.in_err-name.ensures.reads l k)))

pub returns-clause-reads : goal.returns-clause-reads
returns-clause-reads c l k = if_on c.if-not-eat_word.ensures (flat_on name_alike c.in_ok-name.ensures.reads gives)

pub returns-clause-placed : goal.returns-clause-placed
returns-clause-placed c = on (past refl here c.if-not-eat_word.ensures) c.in_ok-name.ensures.placed
