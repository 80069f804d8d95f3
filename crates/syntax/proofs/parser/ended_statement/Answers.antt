use Rattle.std.proofs.Common.{refl}
use Rattle.syntax_cursor.proofs.Places.{past}
use Rattle.syntax.proofs.Scripts.{statement_fails, statement_answered, statement_closed}
use Rattle.syntax.proofs.Stops.{passed, closed}
use Rattle.syntax.proofs.parser.ended_statement.Goals as goal

pub returns-in_err-statement-clause-reads : goal.returns-in_err-statement-clause-reads
returns-in_err-statement-clause-reads c = statement_answered c.args.cursor.now _ _ _ _ (passed _ c.from_residual.ensures.1) (statement_fails c.args.cursor.now c.statement.new.cursor _ c.requires c.in_err-statement.ensures.reads)

pub returns-clause-reads : goal.returns-clause-reads
returns-clause-reads c = rw c.and.ensures (statement_closed c.args.cursor.now c.statement.new.cursor c.expect_symbol.new.self c.in_ok-statement.statement c.expect_symbol.result c.requires c.in_ok-statement.ensures.reads c.expect_symbol.ensures)

pub returns-clause-placed : goal.returns-clause-placed
returns-clause-placed c = rw c.and.ensures (closed _ _ _ c.expect_symbol.ensures (λ at. past refl c.in_ok-statement.ensures.placed at))
