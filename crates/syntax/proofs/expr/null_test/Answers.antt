use Rattle.std.proofs.Common.{ap, refl, ◌∙◌}
use Rattle.parse_tree.proofs.Views.{of_is_null}
use Rattle.definitions.specs.Statement as tree
use Rattle.parse_tree.specs.Trees.{expr_of}
use Rattle.definitions.specs.Grammar as g
use Rattle.definitions.proofs.Grammar.{maybe_alike}
use Rattle.syntax_cursor.proofs.Outcomes.{gives_as, flat_on, past_on, past_fails, maybe}
use Rattle.syntax_cursor.proofs.Places.{seen_as, past}
use Rattle.syntax.proofs.Places as leaves
use Rattle.syntax_cursor.specs.Places.{Reserved, one}
use Rattle.syntax.specs.Places.{expr_leaves}
use Rattle.definitions.specs.Word as words
use Rattle.std.proofs.Common.{◌++◌}
use Rattle.syntax.proofs.Stops.{stops}
use Rattle.syntax.proofs.expr.null_test.Goals as goal

pub returns-in_err-expect_word-clause-reads : goal.returns-in_err-expect_word-clause-reads
unfolding g.NullOf
returns-in_err-expect_word-clause-reads c l k = stops _ _ c.from_residual.ensures.1 (flat_on (maybe_alike _) (maybe _ c.eat_word-negated.ensures) (past_fails c.in_err-expect_word.ensures))

pub returns-clause-reads : goal.returns-clause-reads
unfolding g.NullOf
returns-clause-reads c l k = flat_on (maybe_alike _) (maybe _ c.eat_word-negated.ensures) (past_on c.in_ok-expect_word.ensures (gives_as (of_is_null _ _ _ ∙ ap (λ z. tree.IsNull c.eat_word-negated.result (expr_of z)) refl)))

pub returns-clause-placed : goal.returns-clause-placed
returns-clause-placed c = λ from d. seen_as (leaves.of_is_null _ _ _ ∙ ap (λ z. expr_leaves z ++ one (Reserved words.Is) c.args.start) refl) (past refl (leaves.maybe_past _ _ refl d c.eat_word-negated.ensures) c.in_ok-expect_word.ensures)
