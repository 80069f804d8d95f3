use Rattle.std.proofs.Common.{ap, refl, rules, slice_get, ◌∙◌}
use Rattle.definitions.specs.Grammar as g
use Rattle.syntax_cursor.proofs.Places.{leaf_here, count_says}
use Rattle.syntax_cursor.proofs.Outcomes.{says, says_not, begins}
use Rattle.syntax_cursor.proofs.cursor.Cursor.count.Goals as goal

pub returns-in_default-clause-reads : goal.returns-in_default-clause-reads
returns-in_default-clause-reads c l k = begins c.look.ensures.same (says_not (ap g.count_in (ap (λ z. slice_get z.tokens z.at) c.look.ensures.same ∙ c.in_default.ensures.end)) c.stop.ensures)

pub returns-in_default-whole-clause-reads : goal.returns-in_default-whole-clause-reads
returns-in_default-whole-clause-reads c l k = begins c.look.ensures.same (says_not (rw c.look.ensures.same (ap g.count_in c.in-Some.ensures.token ∙ c.in_default-whole.ensures)) c.stop-in_default-whole.ensures)

pub returns-clause-reads : goal.returns-clause-reads
returns-clause-reads c l k = says (ap g.count_in c.in-Some.ensures.token ∙ c.in-Some-whole.ensures) refl (search rules)

pub returns-clause-placed : goal.returns-clause-placed
returns-clause-placed c = leaf_here (count_says _ _ (ap g.count_in c.in-Some.ensures.token ∙ c.in-Some-whole.ensures)) (search rules) (search rules)
