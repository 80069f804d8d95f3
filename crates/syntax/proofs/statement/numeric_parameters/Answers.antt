use Rattle.definitions.specs.Value.{Numeric}
use Rattle.definitions.specs.Rule.{Gives, Then}
use Rattle.definitions.proofs.Alike.{Alike, gives_alike, then_alike}
use Rattle.definitions.specs.Grammar as g
use Rattle.definitions.proofs.Grammar.{count_alike, scale_alike}
use Rattle.syntax_cursor.proofs.Outcomes.{then_on, flat_on, past_on, gives, past_fails, then_fails}
use Rattle.syntax_cursor.proofs.Places.{here, no_more, past}
use Rattle.syntax.proofs.Places as leaves
use Rattle.std.proofs.Common.{refl}
use Rattle.syntax.proofs.Stops.{stops}
use Rattle.syntax.proofs.statement.numeric_parameters.Goals as goal

inner : Alike (Then g.CountAt (λ p. Then g.ScaleAt (λ s. Gives (Numeric p s)))) (Then g.CountAt (λ p. Then g.ScaleAt (λ s. Gives (Numeric p s))))
inner = then_alike count_alike (λ p. then_alike scale_alike (λ s. gives_alike _))

pub returns-in_err-expect_symbol-clause-reads : goal.returns-in_err-expect_symbol-clause-reads
unfolding g.ParametersAt
returns-in_err-expect_symbol-clause-reads c l k = stops _ _ c.from_residual.ensures.1 (past_fails c.in_err-expect_symbol.ensures)

pub returns-in_err-precision-clause-reads : goal.returns-in_err-precision-clause-reads
unfolding g.ParametersAt
returns-in_err-precision-clause-reads c l k = stops _ _ c.from_residual-in_err-precision.ensures.1 (past_on c.in_ok-expect_symbol.ensures (then_fails (then_fails (c.in_err-precision.ensures.reads l k))))

pub returns-in_err-scale-clause-reads : goal.returns-in_err-scale-clause-reads
unfolding g.ParametersAt
returns-in_err-scale-clause-reads c l k = stops _ _ c.from_residual-in_err-scale.ensures.1 (past_on c.in_ok-expect_symbol.ensures (then_fails (flat_on count_alike c.in_ok-precision.ensures.reads (then_fails (c.in_err-scale.ensures.reads l k)))))

pub returns-in_err-expect_symbol-2-clause-reads : goal.returns-in_err-expect_symbol-2-clause-reads
unfolding g.ParametersAt
returns-in_err-expect_symbol-2-clause-reads c l k = stops _ _ c.from_residual-in_err-expect_symbol-2.ensures.1 (past_on c.in_ok-expect_symbol.ensures (then_on {k = 0} (λ m. inner) (flat_on count_alike c.in_ok-precision.ensures.reads (flat_on scale_alike c.in_ok-scale.ensures.reads gives)) (past_fails c.in_err-expect_symbol-2.ensures)))

pub returns-clause-reads : goal.returns-clause-reads
unfolding g.ParametersAt
returns-clause-reads c l k = past_on c.in_ok-expect_symbol.ensures (then_on {k = 0} (λ m. inner) (flat_on count_alike c.in_ok-precision.ensures.reads (flat_on scale_alike c.in_ok-scale.ensures.reads gives)) (past_on c.in_ok-expect_symbol-2.ensures gives))

pub returns-clause-placed : goal.returns-clause-placed
returns-clause-placed c = past refl (no_more (no_more (past refl here c.in_ok-expect_symbol.ensures) (leaves.without_leaf refl c.in_ok-precision.ensures.placed)) c.in_ok-scale.ensures.placed) c.in_ok-expect_symbol-2.ensures
