use Rattle.definitions.specs.Grammar as g
use Rattle.syntax_cursor.proofs.Outcomes.{reads_on, gives, says_not, begins}
use Rattle.syntax_cursor.proofs.Places.{ok_then, here, no_more, says_passed}
use Rattle.syntax.proofs.Places as leaves
use Rattle.syntax.proofs.statement.declared_type.Goals as goal

pub returns-in_default-clause-reads : goal.returns-in_default-clause-reads
unfolding g.TypeAt
returns-in_default-clause-reads c l k = begins c.in_default.ensures.1 (says_not (rw c.in_default.ensures.1 c.in_default.ensures.0) c.stop.ensures)

pub returns-in-Smallint-clause-reads : goal.returns-in-Smallint-clause-reads
unfolding g.TypeAt
returns-in-Smallint-clause-reads c l k = reads_on (rw c.in-Smallint.is at c.in-Some.ensures) (gives)

pub returns-in-Smallint-clause-placed : goal.returns-in-Smallint-clause-placed
returns-in-Smallint-clause-placed c = says_passed leaves.type_word_passed here c.in-Some.ensures

pub returns-in-Integer-clause-reads : goal.returns-in-Integer-clause-reads
unfolding g.TypeAt
returns-in-Integer-clause-reads c l k = reads_on (rw c.in-Integer.is at c.in-Some.ensures) (gives)

pub returns-in-Integer-clause-placed : goal.returns-in-Integer-clause-placed
returns-in-Integer-clause-placed c = says_passed leaves.type_word_passed here c.in-Some.ensures

pub returns-in-Numeric-clause-reads : goal.returns-in-Numeric-clause-reads
unfolding g.TypeAt
returns-in-Numeric-clause-reads c l k = reads_on (rw c.in-Numeric.is at c.in-Some.ensures) (c.numeric_parameters.ensures.reads l k)

pub returns-in-Numeric-clause-placed : goal.returns-in-Numeric-clause-placed
returns-in-Numeric-clause-placed c = ok_then _ c.numeric_parameters.ensures.placed (λ x d. no_more (says_passed leaves.type_word_passed here c.in-Some.ensures) d)

pub returns-in-Char-clause-reads : goal.returns-in-Char-clause-reads
unfolding g.TypeAt
returns-in-Char-clause-reads c l k = reads_on (rw c.in-Char.is at c.in-Some.ensures) (c.char_length.ensures.reads l k)

pub returns-in-Char-clause-placed : goal.returns-in-Char-clause-placed
returns-in-Char-clause-placed c = ok_then _ c.char_length.ensures.placed (λ x d. no_more (says_passed leaves.type_word_passed here c.in-Some.ensures) d)
