use Rattle.std.proofs.Common.{◌∙◌, sym}
use Rattle.syntax_cursor.proofs.Quotes.{no_opening}
use Rattle.syntax_cursor.proofs.text.without_quotes.Goals as goal

pub returns-in-None : goal.returns-in-None
returns-in-None c = c.new.ensures.bytes ∙ sym (no_opening _ c.in-None.ensures.cases)
