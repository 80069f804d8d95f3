use Rattle.definitions.specs.Grammar as g
use Rattle.definitions.proofs.Grammar.{within_alike, select_alike}
use Rattle.syntax_cursor.proofs.Outcomes.{then_on, misses_on, if_on, gives, then_fails}
use Rattle.syntax_cursor.proofs.Places.{ok_then, here, on, stays, past}
use Rattle.std.proofs.Common.{refl}
use Rattle.syntax.proofs.Stops.{stops}
use Rattle.syntax.proofs.statement.statement.Goals as goal

pub returns-then-eat_word-clause-reads : goal.returns-then-eat_word-clause-reads
unfolding g.StatementOf
returns-then-eat_word-clause-reads c = if_on c.if-eat_word.ensures (c.create.ensures.reads _ _)

pub returns-then-eat_word-clause-placed : goal.returns-then-eat_word-clause-placed
returns-then-eat_word-clause-placed c = ok_then _ c.create.ensures.placed (λ s d. on (past refl here c.if-eat_word.ensures) d)

pub returns-then-eat_word-2-clause-reads : goal.returns-then-eat_word-2-clause-reads
unfolding g.StatementOf
returns-then-eat_word-2-clause-reads c = misses_on c.if-eat_word.ensures (if_on c.if-eat_word-2.ensures (c.load.ensures.reads _ _))

pub returns-then-eat_word-2-clause-placed : goal.returns-then-eat_word-2-clause-placed
returns-then-eat_word-2-clause-placed c = ok_then _ c.load.ensures.placed (λ s d. on (past refl (stays here c.if-eat_word.ensures.1) c.if-eat_word-2.ensures) d)

pub returns-then-eat_word-3-clause-reads : goal.returns-then-eat_word-3-clause-reads
unfolding g.StatementOf
returns-then-eat_word-3-clause-reads c = misses_on c.if-eat_word.ensures (misses_on c.if-eat_word-2.ensures (if_on c.if-eat_word-3.ensures (c.set_statistics.ensures.reads _ _)))

pub returns-then-eat_word-3-clause-placed : goal.returns-then-eat_word-3-clause-placed
returns-then-eat_word-3-clause-placed c = ok_then _ c.set_statistics.ensures.placed (λ s d. on (past refl (stays (stays here c.if-eat_word.ensures.1) c.if-eat_word-2.ensures.1) c.if-eat_word-3.ensures) d)

pub returns-in_err-select-clause-reads : goal.returns-in_err-select-clause-reads
unfolding g.StatementOf
returns-in_err-select-clause-reads c = stops _ _ c.from_residual.ensures.1 (misses_on c.if-eat_word.ensures (misses_on c.if-eat_word-2.ensures (misses_on c.if-eat_word-3.ensures (if_on c.if-eat_word-4.ensures (then_fails c.in_err-select.ensures.reads)))))

pub returns-in_ok-select-clause-reads : goal.returns-in_ok-select-clause-reads
unfolding g.StatementOf
returns-in_ok-select-clause-reads c = misses_on c.if-eat_word.ensures (misses_on c.if-eat_word-2.ensures (misses_on c.if-eat_word-3.ensures (if_on c.if-eat_word-4.ensures (then_on (λ m. select_alike (within_alike c.args.levels m)) c.in_ok-select.ensures.reads gives))))

pub returns-in_ok-select-clause-placed : goal.returns-in_ok-select-clause-placed
returns-in_ok-select-clause-placed c = on (past refl (stays (stays (stays here c.if-eat_word.ensures.1) c.if-eat_word-2.ensures.1) c.if-eat_word-3.ensures.1) c.if-eat_word-4.ensures) c.in_ok-select.ensures.placed

pub returns-in_err-select-2-clause-reads : goal.returns-in_err-select-2-clause-reads
unfolding g.StatementOf
returns-in_err-select-2-clause-reads c = stops _ _ c.from_residual-in_err-select-2.ensures.1 (misses_on c.if-eat_word.ensures (misses_on c.if-eat_word-2.ensures (misses_on c.if-eat_word-3.ensures (misses_on c.if-eat_word-4.ensures (then_fails c.in_err-select-2.ensures.reads)))))

pub returns-in_ok-select-2-clause-reads : goal.returns-in_ok-select-2-clause-reads
unfolding g.StatementOf
returns-in_ok-select-2-clause-reads c = misses_on c.if-eat_word.ensures (misses_on c.if-eat_word-2.ensures (misses_on c.if-eat_word-3.ensures (misses_on c.if-eat_word-4.ensures (then_on (λ m. select_alike (within_alike c.args.levels m)) c.in_ok-select-2.ensures.reads gives))))

pub returns-in_ok-select-2-clause-placed : goal.returns-in_ok-select-2-clause-placed
returns-in_ok-select-2-clause-placed c = on (stays (stays (stays (stays here c.if-eat_word.ensures.1) c.if-eat_word-2.ensures.1) c.if-eat_word-3.ensures.1) c.if-eat_word-4.ensures.1) c.in_ok-select-2.ensures.placed
