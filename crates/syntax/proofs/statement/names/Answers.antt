use Rattle.definitions.specs.Grammar as g
use Rattle.definitions.specs.Limits.{most_index_columns}
use Rattle.definitions.proofs.Grammar.{list_alike, name_alike}
use Rattle.syntax_cursor.proofs.Outcomes.{flat_on, past_on, gives, past_fails, then_fails}
use Rattle.syntax_cursor.proofs.Places.{here, on, past}
use Rattle.std.proofs.Common.{refl}
use Rattle.syntax.proofs.Stops.{stops}
use Rattle.syntax.proofs.statement.names.Goals as goal

pub returns-in_err-expect_symbol-clause-reads : goal.returns-in_err-expect_symbol-clause-reads
unfolding g.NamesAt
returns-in_err-expect_symbol-clause-reads c l k = stops _ _ c.from_residual.ensures.1 (past_fails c.in_err-expect_symbol.ensures)

pub returns-in_err-names-clause-reads : goal.returns-in_err-names-clause-reads
unfolding g.NamesAt
returns-in_err-names-clause-reads c l k = stops _ _ c.from_residual-in_err-names.ensures.1 (past_on c.in_ok-expect_symbol.ensures (then_fails (c.in_err-names.ensures.reads l k)))

pub returns-in_err-expect_symbol-2-clause-reads : goal.returns-in_err-expect_symbol-2-clause-reads
unfolding g.NamesAt
returns-in_err-expect_symbol-2-clause-reads c l k = stops _ _ c.from_residual-in_err-expect_symbol-2.ensures.1 (past_on c.in_ok-expect_symbol.ensures (flat_on (list_alike most_index_columns name_alike) c.in_ok-names.ensures.reads (past_fails c.in_err-expect_symbol-2.ensures)))

pub returns-clause-reads : goal.returns-clause-reads
unfolding g.NamesAt
returns-clause-reads c l k = past_on c.in_ok-expect_symbol.ensures (flat_on (list_alike most_index_columns name_alike) c.in_ok-names.ensures.reads (past_on c.in_ok-expect_symbol-2.ensures gives))

pub returns-clause-placed : goal.returns-clause-placed
returns-clause-placed c = past refl (on (past refl here c.in_ok-expect_symbol.ensures) c.in_ok-names.ensures.placed) c.in_ok-expect_symbol-2.ensures
