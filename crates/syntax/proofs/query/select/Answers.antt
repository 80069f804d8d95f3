use Rattle.definitions.specs.Grammar as g
use Rattle.definitions.proofs.Grammar.{block_alike, within_alike, order_alike}
use Rattle.syntax_cursor.proofs.Outcomes.{then_on, flat_on, gives, then_fails}
use Rattle.syntax_cursor.proofs.Places.{on}
use Rattle.syntax.proofs.Stops.{stops}
use Rattle.syntax.proofs.query.select.Goals as goal

pub returns-in_err-block-clause-reads : goal.returns-in_err-block-clause-reads
unfolding g.SelectOf
returns-in_err-block-clause-reads c = stops _ _ c.from_residual.ensures.1 (then_fails c.in_err-block.ensures.reads)

pub returns-in_err-order-clause-reads : goal.returns-in_err-order-clause-reads
unfolding g.SelectOf
returns-in_err-order-clause-reads c = stops _ _ c.from_residual-in_err-order.ensures.1 (then_on (λ m. block_alike (within_alike c.args.levels m)) c.in_ok-block.ensures.reads (then_fails (c.in_err-order.ensures.reads _ _)))

pub returns-clause-reads : goal.returns-clause-reads
unfolding g.SelectOf
returns-clause-reads c = then_on (λ m. block_alike (within_alike c.args.levels m)) c.in_ok-block.ensures.reads (flat_on order_alike c.in_ok-order.ensures.reads gives)

pub returns-clause-placed : goal.returns-clause-placed
returns-clause-placed c = on c.in_ok-block.ensures.placed c.in_ok-order.ensures.placed
