use Rattle.std.proofs.Common.{ap}
use Rattle.std.proofs.Common.{map}
use Rattle.parse_tree.specs.Trees.{column_of}
use Rattle.definitions.specs.Grammar as g
use Rattle.syntax_cursor.proofs.Outcomes.{gives_as, past_on, misses_on, if_on, past_fails}
use Rattle.syntax_cursor.proofs.Places.{ok_then, here, on, stays, seen_as, past}
use Rattle.std.proofs.Common.{refl}
use Rattle.syntax.specs.Places.{all, reference_leaves}
use Rattle.syntax.proofs.Stops.{stops}
use Rattle.syntax.proofs.query.groups.Goals as goal

pub returns-then-not-eat_word-clause-reads : goal.returns-then-not-eat_word-clause-reads
unfolding g.GroupsAt
returns-then-not-eat_word-clause-reads c l k = misses_on c.if-not-eat_word.ensures (gives_as (ap (λ xs. map column_of xs) c.new.ensures.items))

pub returns-then-not-eat_word-clause-placed : goal.returns-then-not-eat_word-clause-placed
returns-then-not-eat_word-clause-placed c = seen_as (ap (all reference_leaves) c.new.ensures.items) (stays here c.if-not-eat_word.ensures.1)

pub returns-in_err-expect_word-clause-reads : goal.returns-in_err-expect_word-clause-reads
unfolding g.GroupsAt
returns-in_err-expect_word-clause-reads c l k = stops _ _ c.from_residual.ensures.1 (if_on c.if-not-eat_word.ensures (past_fails c.in_err-expect_word.ensures))

pub returns-clause-reads : goal.returns-clause-reads
unfolding g.GroupsAt
returns-clause-reads c l k = if_on c.if-not-eat_word.ensures (past_on c.in_ok-expect_word.ensures (c.comma_list.ensures.reads l k))

pub returns-clause-placed : goal.returns-clause-placed
returns-clause-placed c = ok_then _ c.comma_list.ensures.placed (λ xs d. on (past refl (past refl here c.if-not-eat_word.ensures) c.in_ok-expect_word.ensures) d)
