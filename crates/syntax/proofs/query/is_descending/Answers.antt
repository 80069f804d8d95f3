use Rattle.definitions.specs.Grammar as g
use Rattle.syntax_cursor.proofs.Outcomes.{misses_on, if_on, gives, maybe}
use Rattle.syntax_cursor.proofs.Places.{here, stays, past}
use Rattle.syntax.proofs.Places as leaves
use Rattle.std.proofs.Common.{refl}
use Rattle.syntax.proofs.query.is_descending.Goals as goal

pub returns-then-eat_word-clause-reads : goal.returns-then-eat_word-clause-reads
unfolding g.DirectionAt
returns-then-eat_word-clause-reads c l k = if_on c.if-eat_word.ensures gives

pub returns-then-eat_word-clause-placed : goal.returns-then-eat_word-clause-placed
returns-then-eat_word-clause-placed c = past refl here c.if-eat_word.ensures

pub returns-clause-reads : goal.returns-clause-reads
unfolding g.DirectionAt
returns-clause-reads c l k = misses_on c.if-eat_word.ensures (maybe _ c.eat_word-2.ensures l k)

pub returns-clause-placed : goal.returns-clause-placed
returns-clause-placed c = leaves.maybe_past _ _ refl (stays here c.if-eat_word.ensures.1) c.eat_word-2.ensures
