use Rattle.definitions.specs.Grammar as g
use Rattle.definitions.proofs.Grammar.{count_alike}
use Rattle.syntax_cursor.proofs.Outcomes.{flat_on, past_on, misses_on, if_on, gives, past_fails, then_fails}
use Rattle.syntax_cursor.proofs.Places.{here, stays, no_more, past}
use Rattle.syntax.proofs.Places as leaves
use Rattle.std.proofs.Common.{refl}
use Rattle.syntax.proofs.Stops.{stops}
use Rattle.syntax.proofs.statement.char_length.Goals as goal

pub returns-then-not-eat_symbol-clause-reads : goal.returns-then-not-eat_symbol-clause-reads
unfolding g.LengthAt
returns-then-not-eat_symbol-clause-reads c l k = misses_on c.if-not-eat_symbol.ensures gives

pub returns-then-not-eat_symbol-clause-placed : goal.returns-then-not-eat_symbol-clause-placed
returns-then-not-eat_symbol-clause-placed c = stays here c.if-not-eat_symbol.ensures.1

pub returns-in_err-length-clause-reads : goal.returns-in_err-length-clause-reads
unfolding g.LengthAt
returns-in_err-length-clause-reads c l k = stops _ _ c.from_residual.ensures.1 (if_on c.if-not-eat_symbol.ensures (then_fails (c.in_err-length.ensures.reads l k)))

pub returns-in_err-expect_symbol-clause-reads : goal.returns-in_err-expect_symbol-clause-reads
unfolding g.LengthAt
returns-in_err-expect_symbol-clause-reads c l k = stops _ _ c.from_residual-in_err-expect_symbol.ensures.1 (if_on c.if-not-eat_symbol.ensures (flat_on count_alike c.in_ok-length.ensures.reads (past_fails c.in_err-expect_symbol.ensures)))

pub returns-clause-reads : goal.returns-clause-reads
unfolding g.LengthAt
returns-clause-reads c l k = if_on c.if-not-eat_symbol.ensures (flat_on count_alike c.in_ok-length.ensures.reads (past_on c.in_ok-expect_symbol.ensures gives))

pub returns-clause-placed : goal.returns-clause-placed
returns-clause-placed c = past refl (no_more (past refl here c.if-not-eat_symbol.ensures) (leaves.without_leaf refl c.in_ok-length.ensures.placed)) c.in_ok-expect_symbol.ensures
