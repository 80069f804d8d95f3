use Rattle.std.proofs.Common.{sym, ap, rules, Some, ◌∙◌}
use Rattle.definitions.specs.Grammar as g
use Rattle.syntax_cursor.proofs.Places.{here, stays, leaf_here, string_says}
use Rattle.syntax_cursor.proofs.cursor.Cursor.take_string.Goals as goal

pub returns-in_default-clause-ok : goal.returns-in_default-clause-ok
returns-in_default-clause-ok c = (ap g.string_in c.in_default.ensures.end, c.look.ensures.same)

pub returns-then-not-is_string-clause-ok : goal.returns-then-not-is_string-clause-ok
returns-then-not-is_string-clause-ok c = (ap g.string_in c.in-Some.ensures.token ∙ c.if-not-is_string.ensures.none _, c.look.ensures.same)

pub returns-clause-ok : goal.returns-clause-ok
returns-clause-ok c = (ap g.string_in c.in-Some.ensures.token ∙ c.if-not-is_string.ensures.stands _ ∙ ap Some (sym c.in_ok-text.ensures), search rules)

pub returns-in_default-clause-placed : goal.returns-in_default-clause-placed
returns-in_default-clause-placed c = stays here c.look.ensures.same

pub returns-then-not-is_string-clause-placed : goal.returns-then-not-is_string-clause-placed
returns-then-not-is_string-clause-placed c = stays here c.look.ensures.same

pub returns-clause-placed : goal.returns-clause-placed
returns-clause-placed c = leaf_here (string_says _ _ (ap g.string_in c.in-Some.ensures.token ∙ c.if-not-is_string.ensures.stands _ ∙ ap Some (sym c.in_ok-text.ensures))) (search rules) c.in-Some.ensures.start
