use Rattle.definitions.specs.Grammar as g
use Rattle.definitions.proofs.Grammar.{maybe_alike, name_alike, names_alike}
use Rattle.syntax_cursor.proofs.Outcomes.{flat_on, past_on, gives, past_fails, then_fails, maybe}
use Rattle.syntax_cursor.proofs.Places.{here, on, past}
use Rattle.syntax.proofs.Places as leaves
use Rattle.std.proofs.Common.{refl}
use Rattle.syntax.proofs.Stops.{stops}
use Rattle.syntax.proofs.statement.create_index.Goals as goal

pub returns-in_err-expect_word-clause-reads : goal.returns-in_err-expect_word-clause-reads
unfolding g.IndexAt
returns-in_err-expect_word-clause-reads c l k = stops _ _ c.from_residual.ensures.1 (flat_on (maybe_alike _) (maybe _ c.eat_word-unique.ensures) (past_fails c.in_err-expect_word.ensures))

pub returns-in_err-expect_word-2-clause-reads : goal.returns-in_err-expect_word-2-clause-reads
unfolding g.IndexAt
returns-in_err-expect_word-2-clause-reads c l k = stops _ _ c.from_residual-in_err-expect_word-2.ensures.1 (flat_on (maybe_alike _) (maybe _ c.eat_word-unique.ensures) (past_on c.in_ok-expect_word.ensures (past_fails c.in_err-expect_word-2.ensures)))

pub returns-in_err-table-clause-reads : goal.returns-in_err-table-clause-reads
unfolding g.IndexAt
returns-in_err-table-clause-reads c l k = stops _ _ c.from_residual-in_err-table.ensures.1 (flat_on (maybe_alike _) (maybe _ c.eat_word-unique.ensures) (past_on c.in_ok-expect_word.ensures (past_on c.in_ok-expect_word-2.ensures (then_fails (c.in_err-table.ensures.reads l k)))))

pub returns-in_err-columns-clause-reads : goal.returns-in_err-columns-clause-reads
unfolding g.IndexAt
returns-in_err-columns-clause-reads c l k = stops _ _ c.from_residual-in_err-columns.ensures.1 (flat_on (maybe_alike _) (maybe _ c.eat_word-unique.ensures) (past_on c.in_ok-expect_word.ensures (past_on c.in_ok-expect_word-2.ensures (flat_on name_alike c.in_ok-table.ensures.reads (then_fails (c.in_err-columns.ensures.reads l k))))))

pub returns-clause-reads : goal.returns-clause-reads
unfolding g.IndexAt
returns-clause-reads c l k = flat_on (maybe_alike _) (maybe _ c.eat_word-unique.ensures) (past_on c.in_ok-expect_word.ensures (past_on c.in_ok-expect_word-2.ensures (flat_on name_alike c.in_ok-table.ensures.reads (flat_on names_alike c.in_ok-columns.ensures.reads gives))))

pub returns-clause-placed : goal.returns-clause-placed
returns-clause-placed c = on (on (past refl (past refl (leaves.maybe_past _ _ refl here c.eat_word-unique.ensures) c.in_ok-expect_word.ensures) c.in_ok-expect_word-2.ensures) c.in_ok-table.ensures.placed) c.in_ok-columns.ensures.placed
