-- What a question mark passes on, and what stands before a symbol that closes it.
use Rattle.std.proofs.Common.{ℕ, ap, sym, subst, Result, Ok, Err, ◌≡◌}
use Rattle.std.specs.Prelude.{IfOk}
use Rattle.std.specs.Result.{IsErrAnd, result_and}
use Rattle.definitions.specs.Token.{TokenKind}
use Rattle.definitions.specs.Rule.{Rule, At, Past, Gives}
use Rattle.syntax_cursor.specs.declared.stop.ParseStop.{ParseStop}
use Rattle.syntax_cursor.specs.Reading.{Place, Expects, IsNext, Outcome, viewed}
use Rattle.syntax_cursor.proofs.Outcomes.{gives, past_on, past_fails}

-- a stop that is passed on is one
pub passed : {A : Type 0} {stop : ParseStop} (result : Result A ParseStop) → IsErrAnd result (λ e. e ≡ stop) → result ≡ Err stop
passed (Ok x) h = absurd h
passed (Err e) h = ap Err h

-- a question mark answers with the stop that it passes on
pub stops : {A X : Type 0} {rule : ℕ → Rule X} {levels least : ℕ} {p q : Place} {stop : ParseStop} (meaning : A → X) (result : Result A ParseStop) → IsErrAnd result (λ e. e ≡ stop) → Outcome rule levels least p q (Err stop) → Outcome rule levels least p q (viewed meaning result)
stops {rule = rule} {levels = levels} {least = least} {p = p} {q = q} meaning result h out = subst (λ x. Outcome rule levels least p q (viewed meaning x)) (sym (passed result h)) out

-- what was read is answered if a symbol stands behind it
pub closes : {A X : Type 0} {kind : TokenKind} {levels least : ℕ} {p q : Place} (meaning : A → X) (x : A) (symbol : Result Unit ParseStop) → Expects kind p q symbol → Outcome (λ m. Past kind (Gives (meaning x))) levels least p q (viewed meaning (result_and symbol (Ok x)))
closes meaning x (Ok done) at = past_on at gives
closes meaning x (Err stop) at = past_fails at

pub closed : {A : Type 0} {kind : TokenKind} {p q : Place} (P : A → Type 0) (x : A) (symbol : Result Unit ParseStop) → Expects kind p q symbol → (At p.tokens p.at kind × IsNext p q → P x) → IfOk (result_and symbol (Ok x)) P
closed P x (Ok done) at h = h at
closed P x (Err stop) at h = tt
