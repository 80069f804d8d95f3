use Rattle.definitions.specs.Word as w
use Rattle.definitions.specs.Token.{Reserved}
use Rattle.definitions.specs.Statement.{Range}
use Rattle.definitions.specs.Rule.{Rule, Gives, Past, Then}
use Rattle.definitions.proofs.Alike.{Alike, gives_alike, past_alike, then_alike}
use Rattle.definitions.specs.Grammar as g
use Rattle.definitions.proofs.Grammar.{bound_alike}
use Rattle.syntax_cursor.proofs.Outcomes.{then_on, flat_on, past_on, misses_on, if_on, gives, past_fails, then_fails}
use Rattle.syntax_cursor.proofs.Places.{here, on, stays, past}
use Rattle.std.proofs.Common.{refl}
use Rattle.syntax.proofs.Stops.{stops}
use Rattle.syntax.proofs.statement.range.Goals as goal

abbrev bounds : Rule Range
bounds = Then g.BoundAt (λ low. Past (Reserved w.High) (Then g.BoundAt (λ high. Gives (record { low = low; high = high }))))

inner : Alike bounds bounds
inner = then_alike bound_alike (λ low. past_alike _ (then_alike bound_alike (λ high. gives_alike _)))

pub returns-then-not-eat_word-clause-reads : goal.returns-then-not-eat_word-clause-reads
unfolding g.RangeAt
returns-then-not-eat_word-clause-reads c l k = misses_on c.if-not-eat_word.ensures gives

pub returns-then-not-eat_word-clause-placed : goal.returns-then-not-eat_word-clause-placed
returns-then-not-eat_word-clause-placed c = stays here c.if-not-eat_word.ensures.1

pub returns-in_err-low-clause-reads : goal.returns-in_err-low-clause-reads
unfolding g.RangeAt
returns-in_err-low-clause-reads c l k = stops _ _ c.from_residual.ensures.1 (if_on c.if-not-eat_word.ensures (then_fails (then_fails (c.in_err-low.ensures.reads l k))))

pub returns-in_err-expect_word-clause-reads : goal.returns-in_err-expect_word-clause-reads
unfolding g.RangeAt
returns-in_err-expect_word-clause-reads c l k = stops _ _ c.from_residual-in_err-expect_word.ensures.1 (if_on c.if-not-eat_word.ensures (then_fails (flat_on bound_alike c.in_ok-low.ensures.reads (past_fails c.in_err-expect_word.ensures))))

pub returns-in_err-high-clause-reads : goal.returns-in_err-high-clause-reads
unfolding g.RangeAt
returns-in_err-high-clause-reads c l k = stops _ _ c.from_residual-in_err-high.ensures.1 (if_on c.if-not-eat_word.ensures (then_fails (flat_on bound_alike c.in_ok-low.ensures.reads (past_on c.in_ok-expect_word.ensures (then_fails (c.in_err-high.ensures.reads l k))))))

pub returns-clause-reads : goal.returns-clause-reads
unfolding g.RangeAt
returns-clause-reads c l k = if_on c.if-not-eat_word.ensures (then_on {k = 0} (λ m. inner) (flat_on bound_alike c.in_ok-low.ensures.reads (past_on c.in_ok-expect_word.ensures (flat_on bound_alike c.in_ok-high.ensures.reads gives))) gives)

pub returns-clause-placed : goal.returns-clause-placed
returns-clause-placed c = on (past refl (on (past refl here c.if-not-eat_word.ensures) c.in_ok-low.ensures.placed) c.in_ok-expect_word.ensures) c.in_ok-high.ensures.placed
