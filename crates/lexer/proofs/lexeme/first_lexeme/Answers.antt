use Rattle.std.proofs.Common.{◌∙◌, sym}
use Rattle.lexer.proofs.First.{word_first, comment_first}
use Rattle.lexer.proofs.lexeme.first_lexeme.Goals as goal

pub returns-then-is_letter : goal.returns-then-is_letter
returns-then-is_letter c = rw c.leading_word_bytes.ensures (word_first c.args.text.now (sym c.is_letter.ensures ∙ c.if-is_letter.true))

pub returns-then-begins_comment : goal.returns-then-begins_comment
returns-then-begins_comment c = rw c.leading_line.ensures (comment_first c.args.text.now (sym c.begins_comment.ensures ∙ c.if-begins_comment.true))
