use Rattle.std.proofs.Common.{◌≡◌, ◌∙◌, sym, ap}
use Rattle.definitions.specs.Token as token
use Rattle.lexer.specs.Meaning.{symbol_of}
use Rattle.lexer.specs.declared.token.Symbol.{Symbol}
use Rattle.lexer.specs.contracts.token.Symbol.{the_type}
use denote.Enum.Bare.{same_true, true_same}
use Rattle.syntax_cursor.proofs.Tokens.{same_symbol}
use Rattle.syntax_cursor.proofs.cursor.is_symbol.Goals as goal

same_kind : (x y : Symbol) → token.Mark (symbol_of x) ≡ token.Mark (symbol_of y) → x ≡ y
same_kind x y e = same_symbol x y cc

pub returns-in-Mark : goal.returns-in-Mark
returns-in-Mark c text = rw c.in-Mark.is (λ t. ap (λ (z : Symbol). token.Mark (symbol_of z)) (same_true the_type tt _ _ (sym c.eq.ensures ∙ t)), λ e. c.eq.ensures ∙ true_same the_type _ _ (same_kind _ _ e))
