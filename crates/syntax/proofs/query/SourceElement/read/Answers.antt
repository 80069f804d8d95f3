use Rattle.parse_tree.specs.Trees.{name_of}
use Rattle.definitions.specs.Grammar as g
use Rattle.definitions.proofs.Grammar.{name_alike}
use Rattle.syntax_cursor.proofs.Outcomes.{maybe_says, flat_on, then_fails, no_memory}
use Rattle.syntax_cursor.proofs.Places.{on}
use Rattle.syntax.proofs.Stops.{stops}
use Rattle.syntax.proofs.query.SourceElement.read.Goals as goal

pub returns-in_err-table-clause-reads : goal.returns-in_err-table-clause-reads
unfolding g.SourceAt
returns-in_err-table-clause-reads c l k = stops _ _ c.from_residual.ensures.1 (then_fails (c.in_err-table.ensures.reads l k))

pub returns-in_err-correlation-clause-reads : goal.returns-in_err-correlation-clause-reads
unfolding g.SourceAt
returns-in_err-correlation-clause-reads c l k = stops _ _ c.from_residual-in_err-correlation.ensures.1 (no_memory c.in_err-correlation.ensures.memory)

pub returns-clause-reads : goal.returns-clause-reads
unfolding g.SourceAt
returns-clause-reads c l k = flat_on name_alike c.in_ok-table.ensures.reads (maybe_says name_of (λ o. record { table = name_of c.in_ok-table.table; correlation = o }) c.in_ok-correlation.correlation c.in_ok-correlation.ensures.ok)

pub returns-clause-placed : goal.returns-clause-placed
returns-clause-placed c = on c.in_ok-table.ensures.placed c.in_ok-correlation.ensures.placed
