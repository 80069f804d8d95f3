use Rattle.std.proofs.Common.{sym, ap, refl, subst, ◌∙◌}
use Rattle.std.proofs.Common.{map}
use Rattle.parse_tree.specs.Trees.{statement_of}
use Rattle.syntax_cursor.proofs.Lists.{map_push}
use Rattle.syntax.proofs.Scripts.{Scripts, script_begins, script_goes_on, script_ends, script_fails_at, fewer, answered, for_memory}
use Rattle.syntax_cursor.proofs.Places.{here, on, seen_as}
use Rattle.syntax.proofs.Places as leaves
use Rattle.syntax.specs.Places.{all, statement_leaves}
use Rattle.syntax.proofs.Stops.{passed}
use Rattle.syntax.proofs.parser.script.Goals as goal

pub statements-init : goal.statements-init
statements-init c = record {
  reads = subst (λ xs. Scripts c.args.cursor.now c.args.cursor.now xs) (sym (ap (λ xs. map statement_of xs) c.new-statements.ensures.items)) (script_begins c.args.cursor.now);
  placed = seen_as (ap (all statement_leaves) c.new-statements.ensures.items) here;
}

pub returns-clause-reads : goal.returns-clause-reads
returns-clause-reads c = script_ends c.args.cursor.now c.statements.cursor (map statement_of c.statements.statements.items) c.statements.invariant.reads c.statements-test.ensures.end

pub returns-clause-placed : goal.returns-clause-placed
returns-clause-placed c = leaves.ended _ _ _ c.statements.invariant.placed c.statements-test.ensures.end

pub statements-preserved : goal.statements-preserved
statements-preserved c = record {
  reads = subst (λ xs. Scripts c.args.cursor.now c.ended_statement.new.cursor xs) (sym (ap (λ xs. map statement_of xs) c.in_ok-push.ensures.items ∙ map_push _ _ _)) (script_goes_on c.args.cursor.now c.statements.cursor c.ended_statement.new.cursor (map statement_of c.statements.statements.items) (statement_of c.in_ok-statement.statement) c.statements.invariant.reads c.statements-test.ensures.before c.in_ok-statement.ensures.reads);
  placed = seen_as (ap (all statement_leaves) c.in_ok-push.ensures.items ∙ leaves.all_push statement_leaves _ _) (on c.statements.invariant.placed c.in_ok-statement.ensures.placed);
}

pub statements-smaller : goal.statements-smaller
statements-smaller c = fewer c.statements.cursor c.ended_statement.new.cursor (statement_of c.in_ok-statement.statement) c.statements-test.ensures.before c.in_ok-statement.ensures.reads

pub returns-in_err-statement-clause-reads : goal.returns-in_err-statement-clause-reads
returns-in_err-statement-clause-reads c = answered c.args.cursor.now _ _ _ (passed _ c.from_residual.ensures.1) (script_fails_at c.args.cursor.now c.statements.cursor _ _ c.statements.invariant.reads c.in_err-statement.ensures.reads)

pub returns-in_err-push-clause-reads : goal.returns-in_err-push-clause-reads
returns-in_err-push-clause-reads c = answered c.args.cursor.now _ _ _ (passed _ c.from_residual-in_err-push.ensures.1) (for_memory c.args.cursor.now _ refl)
