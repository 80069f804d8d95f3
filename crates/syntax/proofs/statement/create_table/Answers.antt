use Rattle.definitions.specs.Grammar as g
use Rattle.definitions.specs.Limits.{most_columns}
use Rattle.definitions.proofs.Grammar.{enclosed_alike, list_alike, name_alike, column_alike}
use Rattle.syntax_cursor.proofs.Outcomes.{then_on, flat_on, past_on, gives, past_fails, then_fails}
use Rattle.syntax_cursor.proofs.Places.{on, past}
use Rattle.std.proofs.Common.{refl}
use Rattle.syntax.proofs.Stops.{stops}
use Rattle.syntax.proofs.statement.create_table.Goals as goal

pub returns-in_err-name-clause-reads : goal.returns-in_err-name-clause-reads
unfolding g.TableAt
returns-in_err-name-clause-reads c l k = stops _ _ c.from_residual.ensures.1 (then_fails (c.in_err-name.ensures.reads l k))

pub returns-in_err-expect_symbol-clause-reads : goal.returns-in_err-expect_symbol-clause-reads
unfolding g.TableAt
returns-in_err-expect_symbol-clause-reads c l k = stops _ _ c.from_residual-in_err-expect_symbol.ensures.1 (flat_on name_alike c.in_ok-name.ensures.reads (then_fails (past_fails c.in_err-expect_symbol.ensures)))

pub returns-in_err-columns-clause-reads : goal.returns-in_err-columns-clause-reads
unfolding g.TableAt
returns-in_err-columns-clause-reads c l k = stops _ _ c.from_residual-in_err-columns.ensures.1 (flat_on name_alike c.in_ok-name.ensures.reads (then_fails (past_on c.in_ok-expect_symbol.ensures (then_fails (c.in_err-columns.ensures.reads l k)))))

pub returns-in_err-expect_symbol-2-clause-reads : goal.returns-in_err-expect_symbol-2-clause-reads
unfolding g.TableAt
returns-in_err-expect_symbol-2-clause-reads c l k = stops _ _ c.from_residual-in_err-expect_symbol-2.ensures.1 (flat_on name_alike c.in_ok-name.ensures.reads (then_fails (past_on c.in_ok-expect_symbol.ensures (flat_on (list_alike most_columns column_alike) c.in_ok-columns.ensures.reads (past_fails c.in_err-expect_symbol-2.ensures)))))

pub returns-clause-reads : goal.returns-clause-reads
unfolding g.TableAt
returns-clause-reads c l k = flat_on name_alike c.in_ok-name.ensures.reads (then_on {k = 0} (λ m. enclosed_alike (list_alike most_columns column_alike)) (past_on c.in_ok-expect_symbol.ensures (flat_on (list_alike most_columns column_alike) c.in_ok-columns.ensures.reads (past_on c.in_ok-expect_symbol-2.ensures gives))) (gives))

pub returns-clause-placed : goal.returns-clause-placed
returns-clause-placed c = past refl (on (past refl c.in_ok-name.ensures.placed c.in_ok-expect_symbol.ensures) c.in_ok-columns.ensures.placed) c.in_ok-expect_symbol-2.ensures
