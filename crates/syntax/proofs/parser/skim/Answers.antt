use Rattle.std.proofs.Common.{[], ◌∷◌, ◌++◌}
use Rattle.parse_tree.specs.Trees.{statement_of}
use Rattle.syntax.proofs.Scripts.{script_begins, script_goes_on, script_ends, script_fails_at, fewer, skim_answered}
use Rattle.syntax.proofs.Stops.{passed}
use Rattle.syntax.proofs.parser.skim.Goals as goal

pub statements-init : goal.statements-init
statements-init c = ([], script_begins c.args.cursor.now)

pub returns : goal.returns
returns c = (c.statements.invariant.0, script_ends c.args.cursor.now c.statements.cursor _ c.statements.invariant.1 c.statements-test.ensures.end)

pub statements-preserved : goal.statements-preserved
statements-preserved c =
    (c.statements.invariant.0 ++ statement_of c.in_ok-statement.statement ∷ [], script_goes_on c.args.cursor.now c.statements.cursor c.ended_statement.new.cursor c.statements.invariant.0 (statement_of c.in_ok-statement.statement) c.statements.invariant.1 c.statements-test.ensures.before c.in_ok-statement.ensures.reads)

pub statements-smaller : goal.statements-smaller
statements-smaller c = fewer c.statements.cursor c.ended_statement.new.cursor (statement_of c.in_ok-statement.statement) c.statements-test.ensures.before c.in_ok-statement.ensures.reads

pub returns-in_err-statement : goal.returns-in_err-statement
returns-in_err-statement c = skim_answered c.args.cursor.now _ _ (passed _ c.from_residual.ensures.1) (script_fails_at c.args.cursor.now c.statements.cursor _ _ c.statements.invariant.1 c.in_err-statement.ensures.reads)
