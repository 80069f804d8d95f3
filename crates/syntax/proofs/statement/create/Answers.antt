use Rattle.definitions.specs.Grammar as g
use Rattle.syntax_cursor.proofs.Outcomes.{misses_on, if_on}
use Rattle.syntax_cursor.proofs.Places.{ok_then, here, on, stays, past}
use Rattle.std.proofs.Common.{refl}
use Rattle.syntax.proofs.statement.create.Goals as goal

pub returns-then-eat_word-clause-reads : goal.returns-then-eat_word-clause-reads
unfolding g.CreateAt
returns-then-eat_word-clause-reads c l k = if_on c.if-eat_word.ensures (c.create_table.ensures.reads l k)

pub returns-then-eat_word-clause-placed : goal.returns-then-eat_word-clause-placed
returns-then-eat_word-clause-placed c = ok_then _ c.create_table.ensures.placed (λ s d. on (past refl here c.if-eat_word.ensures) d)

pub returns-else-eat_word-clause-reads : goal.returns-else-eat_word-clause-reads
unfolding g.CreateAt
returns-else-eat_word-clause-reads c l k = misses_on c.if-eat_word.ensures (c.create_index.ensures.reads l k)

pub returns-else-eat_word-clause-placed : goal.returns-else-eat_word-clause-placed
returns-else-eat_word-clause-placed c = ok_then _ c.create_index.ensures.placed (λ s d. on (stays here c.if-eat_word.ensures.1) d)
