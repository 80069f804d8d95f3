use Rattle.std.proofs.Common.{◌≡◌, ℕ, ◌<◌, List, Option, Some, None, length, Bor}
use Rattle.std.specs.Prelude.{slice_get, option_copied, IfSome, IfNone, OnSome}
use Rattle.lexer.specs.Meaning.{kind_of}
use Rattle.lexer.specs.declared.token.Token.{Token}
use Rattle.lexer.specs.Meaning.{kinds_of}
use Rattle.syntax_cursor.proofs.Tokens.{here, nowhere, inside}
use Rattle.syntax_cursor.proofs.cursor.Cursor.look.Goals as goal

found : (ts : List Token) (at : ℕ) (o : Option (Bor Token)) → option_copied o ≡ slice_get ts at → IfSome o (λ t. slice_get (kinds_of ts) at ≡ Some (kind_of t.now.text.now t.now.kind))
found ts at None e = tt
found ts at (Some t) e = here ts at t.now e

absent : (ts : List Token) (at : ℕ) (o : Option (Bor Token)) → option_copied o ≡ slice_get ts at → IfNone o (slice_get (kinds_of ts) at ≡ None)
absent ts at None e = nowhere ts at e
absent ts at (Some t) e = tt

within : (ts : List Token) (at : ℕ) (o : Option (Bor Token)) → option_copied o ≡ slice_get ts at → OnSome o (at < length (kinds_of ts))
within ts at None e = tt
within ts at (Some t) e = inside (kinds_of ts) at _ (here ts at t.now e)

pub returns-clause-token : goal.returns-clause-token
returns-clause-token c = rw (← c.self.view_is) (found c.self.inside.tokens.now c.self.inside.at c.token_at-token.result c.token_at-token.ensures.there)

pub returns-clause-end : goal.returns-clause-end
returns-clause-end c = rw (← c.self.view_is) (absent c.self.inside.tokens.now c.self.inside.at c.token_at-token.result c.token_at-token.ensures.there)

pub returns-clause-inside : goal.returns-clause-inside
returns-clause-inside c = rw (← c.self.view_is) (within c.self.inside.tokens.now c.self.inside.at c.token_at-token.result c.token_at-token.ensures.there)
