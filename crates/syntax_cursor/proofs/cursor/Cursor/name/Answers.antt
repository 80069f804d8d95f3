use Rattle.std.proofs.Common.{refl, rules}
use Rattle.syntax_cursor.proofs.Outcomes.{says, says_not, no_memory, answers, begins}
use Rattle.syntax_cursor.proofs.cursor.Cursor.name.Goals as goal

pub returns-in_err-name-clause-reads : goal.returns-in_err-name-clause-reads
returns-in_err-name-clause-reads c l k = answers _ _ (search rules) (no_memory c.in_err-name.ensures.memory)

pub returns-in_default-clause-reads : goal.returns-in_default-clause-reads
returns-in_default-clause-reads c l k = let at = rw c.in_default.is at c.in_ok-name.ensures.ok in begins at.1 (says_not (rw at.1 at.0) c.stop.ensures)

pub returns-clause-reads : goal.returns-clause-reads
returns-clause-reads c l k = let at = rw c.in-Some.is at c.in_ok-name.ensures.ok in says at.0 refl at.1

pub returns-clause-placed : goal.returns-clause-placed
returns-clause-placed c = rw c.in-Some.is at c.in_ok-name.ensures.placed
