use Rattle.definitions.specs.Grammar as g
use Rattle.syntax_cursor.proofs.Outcomes.{misses_on, if_on, gives}
use Rattle.syntax_cursor.proofs.Places.{here, stays, no_more, past}
use Rattle.syntax.proofs.Places as leaves
use Rattle.std.proofs.Common.{refl}
use Rattle.syntax.proofs.Stops.{stops}
use Rattle.syntax.proofs.statement.scale.Goals as goal

pub returns-then-not-eat_symbol-clause-reads : goal.returns-then-not-eat_symbol-clause-reads
unfolding g.ScaleAt
returns-then-not-eat_symbol-clause-reads c l k = misses_on c.if-not-eat_symbol.ensures gives

pub returns-then-not-eat_symbol-clause-placed : goal.returns-then-not-eat_symbol-clause-placed
returns-then-not-eat_symbol-clause-placed c = stays here c.if-not-eat_symbol.ensures.1

pub returns-in_err-scale-clause-reads : goal.returns-in_err-scale-clause-reads
unfolding g.ScaleAt
returns-in_err-scale-clause-reads c l k = stops _ _ c.from_residual.ensures.1 (if_on c.if-not-eat_symbol.ensures (c.in_err-scale.ensures.reads l k))

pub returns-clause-reads : goal.returns-clause-reads
unfolding g.ScaleAt
returns-clause-reads c l k = if_on c.if-not-eat_symbol.ensures (c.in_ok-scale.ensures.reads l k)

pub returns-clause-placed : goal.returns-clause-placed
returns-clause-placed c = no_more (past refl here c.if-not-eat_symbol.ensures) (leaves.without_leaf refl c.in_ok-scale.ensures.placed)
