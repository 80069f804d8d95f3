use Rattle.std.proofs.Common.{sym, ap, refl, rules, ◌∙◌}
use Rattle.definitions.specs.Grammar as g
use Rattle.syntax_cursor.specs.Places.{numeral_leaves}
use Rattle.syntax_cursor.proofs.Places.{not_there, leaf_here, numeral_says}
use Rattle.syntax_cursor.proofs.cursor.Cursor.take_number.Goals as goal

pub returns-clause-taken : goal.returns-clause-taken
returns-clause-taken c = ((_, ap g.numeral_in c.in_ok-token.ensures.token ∙ sym c.in_ok-number.ensures, rw c.unwrap_or.ensures refl), search rules)

pub returns-in_err-token-clause-placed : goal.returns-in_err-token-clause-placed
returns-in_err-token-clause-placed c = not_there numeral_leaves _ (search rules) (search rules)

pub returns-in_err-number-clause-placed : goal.returns-in_err-number-clause-placed
returns-in_err-number-clause-placed c = not_there numeral_leaves _ (search rules) (search rules)

pub returns-clause-placed : goal.returns-clause-placed
returns-clause-placed c = rw c.unwrap_or.ensures (leaf_here (numeral_says _ _ (ap g.numeral_in c.in_ok-token.ensures.token ∙ sym c.in_ok-number.ensures)) (search rules) c.in_ok-token.ensures.start)
