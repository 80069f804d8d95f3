use Rattle.definitions.specs.Grammar as g
use Rattle.syntax_cursor.proofs.Outcomes.{past_on, misses_on, if_on, gives, past_fails}
use Rattle.syntax_cursor.proofs.Places.{here, stays, past}
use Rattle.std.proofs.Common.{refl}
use Rattle.syntax.proofs.Stops.{stops}
use Rattle.syntax.proofs.statement.constraint.Goals as goal

pub returns-then-not-eat_word-clause-reads : goal.returns-then-not-eat_word-clause-reads
unfolding g.ConstraintAt
returns-then-not-eat_word-clause-reads c l k = misses_on c.if-not-eat_word.ensures gives

pub returns-then-not-eat_word-clause-placed : goal.returns-then-not-eat_word-clause-placed
returns-then-not-eat_word-clause-placed c = stays here c.if-not-eat_word.ensures.1

pub returns-in_err-expect_word-clause-reads : goal.returns-in_err-expect_word-clause-reads
unfolding g.ConstraintAt
returns-in_err-expect_word-clause-reads c l k = stops _ _ c.from_residual.ensures.1 (if_on c.if-not-eat_word.ensures (past_fails c.in_err-expect_word.ensures))

pub returns-then-eat_word-clause-reads : goal.returns-then-eat_word-clause-reads
unfolding g.ConstraintAt
returns-then-eat_word-clause-reads c l k = if_on c.if-not-eat_word.ensures (past_on c.in_ok-expect_word.ensures (if_on c.if-eat_word.ensures gives))

pub returns-then-eat_word-clause-placed : goal.returns-then-eat_word-clause-placed
returns-then-eat_word-clause-placed c = past refl (past refl (past refl here c.if-not-eat_word.ensures) c.in_ok-expect_word.ensures) c.if-eat_word.ensures

pub returns-then-not-eat_word-2-clause-reads : goal.returns-then-not-eat_word-2-clause-reads
unfolding g.ConstraintAt
returns-then-not-eat_word-2-clause-reads c l k = if_on c.if-not-eat_word.ensures (past_on c.in_ok-expect_word.ensures (misses_on c.if-eat_word.ensures (misses_on c.if-not-eat_word-2.ensures gives)))

pub returns-then-not-eat_word-2-clause-placed : goal.returns-then-not-eat_word-2-clause-placed
returns-then-not-eat_word-2-clause-placed c = stays (stays (past refl (past refl here c.if-not-eat_word.ensures) c.in_ok-expect_word.ensures) c.if-eat_word.ensures.1) c.if-not-eat_word-2.ensures.1

pub returns-in_err-expect_word-2-clause-reads : goal.returns-in_err-expect_word-2-clause-reads
unfolding g.ConstraintAt
returns-in_err-expect_word-2-clause-reads c l k = stops _ _ c.from_residual-in_err-expect_word-2.ensures.1 (if_on c.if-not-eat_word.ensures (past_on c.in_ok-expect_word.ensures (misses_on c.if-eat_word.ensures (if_on c.if-not-eat_word-2.ensures (past_fails c.in_err-expect_word-2.ensures)))))

pub returns-clause-reads : goal.returns-clause-reads
unfolding g.ConstraintAt
returns-clause-reads c l k = if_on c.if-not-eat_word.ensures (past_on c.in_ok-expect_word.ensures (misses_on c.if-eat_word.ensures (if_on c.if-not-eat_word-2.ensures (past_on c.in_ok-expect_word-2.ensures gives))))

pub returns-clause-placed : goal.returns-clause-placed
returns-clause-placed c = past refl (past refl (stays (past refl (past refl here c.if-not-eat_word.ensures) c.in_ok-expect_word.ensures) c.if-eat_word.ensures.1) c.if-not-eat_word-2.ensures) c.in_ok-expect_word-2.ensures
