use Rattle.std.proofs.Common.{◌≡◌, ◌∙◌, sym, ap}
use Rattle.definitions.specs.Token as token
use Rattle.lexer.specs.Meaning.{word_of}
use Rattle.lexer.specs.declared.word.Word.{Word}
use Rattle.lexer.specs.contracts.word.Word.{the_type}
use denote.Enum.Bare.{same_true, true_same}
use Rattle.syntax_cursor.proofs.Tokens.{same_word}
use Rattle.syntax_cursor.proofs.cursor.is_word.Goals as goal

same_kind : (x y : Word) → token.Reserved (word_of x) ≡ token.Reserved (word_of y) → x ≡ y
same_kind x y e = same_word x y cc

pub returns-in-Reserved : goal.returns-in-Reserved
returns-in-Reserved c text = rw c.in-Reserved.is (λ t. ap (λ (z : Word). token.Reserved (word_of z)) (same_true the_type tt _ _ (sym c.eq.ensures ∙ t)), λ e. c.eq.ensures ∙ true_same the_type _ _ (same_kind _ _ e))
