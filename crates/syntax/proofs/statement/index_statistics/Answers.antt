use Rattle.definitions.specs.Grammar as g
use Rattle.definitions.proofs.Grammar.{maybe_alike, count_alike, range_alike}
use Rattle.syntax_cursor.proofs.Outcomes.{flat_on, past_on, gives, past_fails, then_fails, maybe}
use Rattle.syntax_cursor.proofs.Places.{here, on, past}
use Rattle.syntax.proofs.Places as leaves
use Rattle.std.proofs.Common.{refl}
use Rattle.syntax.proofs.Stops.{stops}
use Rattle.syntax.proofs.statement.index_statistics.Goals as goal

pub returns-in_err-expect_word-clause-reads : goal.returns-in_err-expect_word-clause-reads
unfolding g.StatisticsAt
returns-in_err-expect_word-clause-reads c l k = stops _ _ c.from_residual.ensures.1 (past_fails c.in_err-expect_word.ensures)

pub returns-in_err-keys-clause-reads : goal.returns-in_err-keys-clause-reads
unfolding g.StatisticsAt
returns-in_err-keys-clause-reads c l k = stops _ _ c.from_residual-in_err-keys.ensures.1 (past_on c.in_ok-expect_word.ensures (then_fails (c.in_err-keys.ensures.reads l k)))

pub returns-in_err-expect_word-2-clause-reads : goal.returns-in_err-expect_word-2-clause-reads
unfolding g.StatisticsAt
returns-in_err-expect_word-2-clause-reads c l k = stops _ _ c.from_residual-in_err-expect_word-2.ensures.1 (past_on c.in_ok-expect_word.ensures (flat_on count_alike c.in_ok-keys.ensures.reads (past_fails c.in_err-expect_word-2.ensures)))

pub returns-in_err-pages-clause-reads : goal.returns-in_err-pages-clause-reads
unfolding g.StatisticsAt
returns-in_err-pages-clause-reads c l k = stops _ _ c.from_residual-in_err-pages.ensures.1 (past_on c.in_ok-expect_word.ensures (flat_on count_alike c.in_ok-keys.ensures.reads (past_on c.in_ok-expect_word-2.ensures (then_fails (c.in_err-pages.ensures.reads l k)))))

pub returns-in_err-range-clause-reads : goal.returns-in_err-range-clause-reads
unfolding g.StatisticsAt
returns-in_err-range-clause-reads c l k = stops _ _ c.from_residual-in_err-range.ensures.1 (past_on c.in_ok-expect_word.ensures (flat_on count_alike c.in_ok-keys.ensures.reads (past_on c.in_ok-expect_word-2.ensures (flat_on count_alike c.in_ok-pages.ensures.reads (flat_on (maybe_alike _) (maybe _ c.eat_word-clustered.ensures) (then_fails (c.in_err-range.ensures.reads l k)))))))

pub returns-clause-reads : goal.returns-clause-reads
unfolding g.StatisticsAt
returns-clause-reads c l k = past_on c.in_ok-expect_word.ensures (flat_on count_alike c.in_ok-keys.ensures.reads (past_on c.in_ok-expect_word-2.ensures (flat_on count_alike c.in_ok-pages.ensures.reads (flat_on (maybe_alike _) (maybe _ c.eat_word-clustered.ensures) (flat_on range_alike c.in_ok-range.ensures.reads gives)))))

pub returns-clause-placed : goal.returns-clause-placed
returns-clause-placed c = on (leaves.maybe_past _ _ refl (on (past refl (on (past refl here c.in_ok-expect_word.ensures) c.in_ok-keys.ensures.placed) c.in_ok-expect_word-2.ensures) c.in_ok-pages.ensures.placed) c.eat_word-clustered.ensures) c.in_ok-range.ensures.placed
