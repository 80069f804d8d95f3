use Rattle.definitions.specs.Grammar as g
use Rattle.definitions.proofs.Grammar.{name_alike}
use Rattle.syntax_cursor.proofs.Outcomes.{flat_on, misses_on, if_on, gives, then_fails}
use Rattle.syntax_cursor.proofs.Places.{on, stays, past}
use Rattle.std.proofs.Common.{refl}
use Rattle.syntax.proofs.Stops.{stops}
use Rattle.syntax.proofs.expr.column_reference.Goals as goal

pub returns-in_err-first-clause-reads : goal.returns-in_err-first-clause-reads
unfolding g.ReferenceAt
returns-in_err-first-clause-reads c l k = stops _ _ c.from_residual.ensures.1 (then_fails (c.in_err-first.ensures.reads l k))

pub returns-then-not-eat_symbol-clause-reads : goal.returns-then-not-eat_symbol-clause-reads
unfolding g.ReferenceAt
returns-then-not-eat_symbol-clause-reads c l k = flat_on name_alike c.in_ok-first.ensures.reads (misses_on c.if-not-eat_symbol.ensures gives)

pub returns-then-not-eat_symbol-clause-placed : goal.returns-then-not-eat_symbol-clause-placed
returns-then-not-eat_symbol-clause-placed c = stays c.in_ok-first.ensures.placed c.if-not-eat_symbol.ensures.1

pub returns-in_err-name-clause-reads : goal.returns-in_err-name-clause-reads
unfolding g.ReferenceAt
returns-in_err-name-clause-reads c l k = stops _ _ c.from_residual-in_err-name.ensures.1 (flat_on name_alike c.in_ok-first.ensures.reads (if_on c.if-not-eat_symbol.ensures (then_fails (c.in_err-name.ensures.reads l k))))

pub returns-clause-reads : goal.returns-clause-reads
unfolding g.ReferenceAt
returns-clause-reads c l k = flat_on name_alike c.in_ok-first.ensures.reads (if_on c.if-not-eat_symbol.ensures (flat_on name_alike c.in_ok-name.ensures.reads gives))

pub returns-clause-placed : goal.returns-clause-placed
returns-clause-placed c = on (past refl c.in_ok-first.ensures.placed c.if-not-eat_symbol.ensures) c.in_ok-name.ensures.placed
