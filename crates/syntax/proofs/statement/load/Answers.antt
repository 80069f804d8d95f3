use Rattle.definitions.specs.Grammar as g
use Rattle.definitions.proofs.Grammar.{name_alike, string_alike}
use Rattle.syntax_cursor.proofs.Outcomes.{flat_on, past_on, gives, past_fails, then_fails}
use Rattle.syntax_cursor.proofs.Places.{on, past}
use Rattle.std.proofs.Common.{refl}
use Rattle.syntax.proofs.Stops.{stops}
use Rattle.syntax.proofs.statement.load.Goals as goal

pub returns-in_err-table-clause-reads : goal.returns-in_err-table-clause-reads
unfolding g.LoadAt
returns-in_err-table-clause-reads c l k = stops _ _ c.from_residual.ensures.1 (then_fails (c.in_err-table.ensures.reads l k))

pub returns-in_err-expect_word-clause-reads : goal.returns-in_err-expect_word-clause-reads
unfolding g.LoadAt
returns-in_err-expect_word-clause-reads c l k = stops _ _ c.from_residual-in_err-expect_word.ensures.1 (flat_on name_alike c.in_ok-table.ensures.reads (past_fails c.in_err-expect_word.ensures))

pub returns-in_err-file-clause-reads : goal.returns-in_err-file-clause-reads
unfolding g.LoadAt
returns-in_err-file-clause-reads c l k = stops _ _ c.from_residual-in_err-file.ensures.1 (flat_on name_alike c.in_ok-table.ensures.reads (past_on c.in_ok-expect_word.ensures (then_fails (c.in_err-file.ensures.reads l k))))

pub returns-clause-reads : goal.returns-clause-reads
unfolding g.LoadAt
returns-clause-reads c l k = flat_on name_alike c.in_ok-table.ensures.reads (past_on c.in_ok-expect_word.ensures (flat_on string_alike c.in_ok-file.ensures.reads gives))

pub returns-clause-placed : goal.returns-clause-placed
returns-clause-placed c = on (past refl c.in_ok-table.ensures.placed c.in_ok-expect_word.ensures) c.in_ok-file.ensures.placed
