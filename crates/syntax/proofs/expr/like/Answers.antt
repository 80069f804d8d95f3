use Rattle.std.proofs.Common.{ap, refl, ◌∙◌}
use Rattle.parse_tree.proofs.Views.{of_like}
use Rattle.definitions.specs.Statement as tree
use Rattle.parse_tree.specs.Trees.{expr_of, text_of}
use Rattle.definitions.specs.Grammar as g
use Rattle.definitions.proofs.Grammar.{string_alike}
use Rattle.syntax_cursor.proofs.Outcomes.{gives_as, flat_on, then_fails}
use Rattle.syntax_cursor.proofs.Places.{on, seen_as}
use Rattle.syntax.proofs.Places as leaves
use Rattle.syntax_cursor.specs.Places.{Reserved, one, string_leaves}
use Rattle.syntax.specs.Places.{expr_leaves}
use Rattle.definitions.specs.Word as words
use Rattle.std.proofs.Common.{◌++◌}
use Rattle.syntax.proofs.Stops.{stops}
use Rattle.syntax.proofs.expr.like.Goals as goal

pub returns-in_err-pattern-clause-reads : goal.returns-in_err-pattern-clause-reads
unfolding g.LikeOf
returns-in_err-pattern-clause-reads c l k = stops _ _ c.from_residual.ensures.1 (then_fails (c.in_err-pattern.ensures.reads l k))

pub returns-clause-reads : goal.returns-clause-reads
unfolding g.LikeOf
returns-clause-reads c l k = flat_on string_alike c.in_ok-pattern.ensures.reads (gives_as (of_like _ _ _ _ ∙ ap (λ z. tree.Like c.args.negated (expr_of z) (text_of c.in_ok-pattern.pattern)) refl))

pub returns-clause-placed : goal.returns-clause-placed
returns-clause-placed c = λ from d. seen_as (leaves.of_like _ _ _ _ ∙ ap (λ z. (expr_leaves z ++ one (Reserved words.Like) c.args.start) ++ string_leaves c.in_ok-pattern.pattern) refl) (on d c.in_ok-pattern.ensures.placed)
