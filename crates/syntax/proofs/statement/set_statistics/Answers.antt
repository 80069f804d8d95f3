use Rattle.definitions.specs.Grammar as g
use Rattle.definitions.proofs.Grammar.{name_alike, count_alike, names_alike, statistics_alike}
use Rattle.syntax_cursor.proofs.Outcomes.{flat_on, past_on, misses_on, if_on, gives, past_fails, then_fails}
use Rattle.syntax_cursor.proofs.Places.{here, on, stays, past}
use Rattle.std.proofs.Common.{refl}
use Rattle.syntax.proofs.Stops.{stops}
use Rattle.syntax.proofs.statement.set_statistics.Goals as goal

pub returns-in_err-expect_word-clause-reads : goal.returns-in_err-expect_word-clause-reads
unfolding g.SetAt
returns-in_err-expect_word-clause-reads c l k = stops _ _ c.from_residual.ensures.1 (past_fails c.in_err-expect_word.ensures)

pub returns-in_err-table-clause-reads : goal.returns-in_err-table-clause-reads
unfolding g.SetAt
returns-in_err-table-clause-reads c l k = stops _ _ c.from_residual-in_err-table.ensures.1 (past_on c.in_ok-expect_word.ensures (then_fails (c.in_err-table.ensures.reads l k)))

pub returns-in_err-rows-clause-reads : goal.returns-in_err-rows-clause-reads
unfolding g.SetAt
returns-in_err-rows-clause-reads c l k = stops _ _ c.from_residual-in_err-rows.ensures.1 (past_on c.in_ok-expect_word.ensures (flat_on name_alike c.in_ok-table.ensures.reads (if_on c.if-eat_word.ensures (then_fails (c.in_err-rows.ensures.reads l k)))))

pub returns-in_err-expect_word-2-clause-reads : goal.returns-in_err-expect_word-2-clause-reads
unfolding g.SetAt
returns-in_err-expect_word-2-clause-reads c l k = stops _ _ c.from_residual-in_err-expect_word-2.ensures.1 (past_on c.in_ok-expect_word.ensures (flat_on name_alike c.in_ok-table.ensures.reads (if_on c.if-eat_word.ensures (flat_on count_alike c.in_ok-rows.ensures.reads (past_fails c.in_err-expect_word-2.ensures)))))

pub returns-in_err-pages-clause-reads : goal.returns-in_err-pages-clause-reads
unfolding g.SetAt
returns-in_err-pages-clause-reads c l k = stops _ _ c.from_residual-in_err-pages.ensures.1 (past_on c.in_ok-expect_word.ensures (flat_on name_alike c.in_ok-table.ensures.reads (if_on c.if-eat_word.ensures (flat_on count_alike c.in_ok-rows.ensures.reads (past_on c.in_ok-expect_word-2.ensures (then_fails (c.in_err-pages.ensures.reads l k)))))))

pub returns-then-eat_word-clause-reads : goal.returns-then-eat_word-clause-reads
unfolding g.SetAt
returns-then-eat_word-clause-reads c l k = past_on c.in_ok-expect_word.ensures (flat_on name_alike c.in_ok-table.ensures.reads (if_on c.if-eat_word.ensures (flat_on count_alike c.in_ok-rows.ensures.reads (past_on c.in_ok-expect_word-2.ensures (flat_on count_alike c.in_ok-pages.ensures.reads gives)))))

pub returns-then-eat_word-clause-placed : goal.returns-then-eat_word-clause-placed
returns-then-eat_word-clause-placed c = on (past refl (on (past refl (on (past refl here c.in_ok-expect_word.ensures) c.in_ok-table.ensures.placed) c.if-eat_word.ensures) c.in_ok-rows.ensures.placed) c.in_ok-expect_word-2.ensures) c.in_ok-pages.ensures.placed

pub returns-in_err-columns-clause-reads : goal.returns-in_err-columns-clause-reads
unfolding g.SetAt
returns-in_err-columns-clause-reads c l k = stops _ _ c.from_residual-in_err-columns.ensures.1 (past_on c.in_ok-expect_word.ensures (flat_on name_alike c.in_ok-table.ensures.reads (misses_on c.if-eat_word.ensures (then_fails (c.in_err-columns.ensures.reads l k)))))

pub returns-in_err-statistics-clause-reads : goal.returns-in_err-statistics-clause-reads
unfolding g.SetAt
returns-in_err-statistics-clause-reads c l k = stops _ _ c.from_residual-in_err-statistics.ensures.1 (past_on c.in_ok-expect_word.ensures (flat_on name_alike c.in_ok-table.ensures.reads (misses_on c.if-eat_word.ensures (flat_on names_alike c.in_ok-columns.ensures.reads (then_fails (c.in_err-statistics.ensures.reads l k))))))

pub returns-clause-reads : goal.returns-clause-reads
unfolding g.SetAt
returns-clause-reads c l k = past_on c.in_ok-expect_word.ensures (flat_on name_alike c.in_ok-table.ensures.reads (misses_on c.if-eat_word.ensures (flat_on names_alike c.in_ok-columns.ensures.reads (flat_on statistics_alike c.in_ok-statistics.ensures.reads gives))))

pub returns-clause-placed : goal.returns-clause-placed
returns-clause-placed c = on (on (stays (on (past refl here c.in_ok-expect_word.ensures) c.in_ok-table.ensures.placed) c.if-eat_word.ensures.1) c.in_ok-columns.ensures.placed) c.in_ok-statistics.ensures.placed
