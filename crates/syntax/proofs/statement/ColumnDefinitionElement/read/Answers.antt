use Rattle.definitions.specs.Grammar as g
use Rattle.definitions.proofs.Grammar.{name_alike, type_alike, constraint_alike}
use Rattle.syntax_cursor.proofs.Outcomes.{flat_on, gives, then_fails}
use Rattle.syntax_cursor.proofs.Places.{no_more}
use Rattle.syntax.proofs.Stops.{stops}
use Rattle.syntax.proofs.statement.ColumnDefinitionElement.read.Goals as goal

pub returns-in_err-name-clause-reads : goal.returns-in_err-name-clause-reads
unfolding g.ColumnAt
returns-in_err-name-clause-reads c l k = stops _ _ c.from_residual.ensures.1 (then_fails (c.in_err-name.ensures.reads l k))

pub returns-in_err-declared-clause-reads : goal.returns-in_err-declared-clause-reads
unfolding g.ColumnAt
returns-in_err-declared-clause-reads c l k = stops _ _ c.from_residual-in_err-declared.ensures.1 (flat_on name_alike c.in_ok-name.ensures.reads (then_fails (c.in_err-declared.ensures.reads l k)))

pub returns-in_err-constraint-clause-reads : goal.returns-in_err-constraint-clause-reads
unfolding g.ColumnAt
returns-in_err-constraint-clause-reads c l k = stops _ _ c.from_residual-in_err-constraint.ensures.1 (flat_on name_alike c.in_ok-name.ensures.reads (flat_on type_alike c.in_ok-declared.ensures.reads (then_fails (c.in_err-constraint.ensures.reads l k))))

pub returns-clause-reads : goal.returns-clause-reads
unfolding g.ColumnAt
returns-clause-reads c l k = flat_on name_alike c.in_ok-name.ensures.reads (flat_on type_alike c.in_ok-declared.ensures.reads (flat_on constraint_alike c.in_ok-constraint.ensures.reads gives))

pub returns-clause-placed : goal.returns-clause-placed
returns-clause-placed c = no_more (no_more c.in_ok-name.ensures.placed c.in_ok-declared.ensures.placed) c.in_ok-constraint.ensures.placed
