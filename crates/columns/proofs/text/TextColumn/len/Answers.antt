use Rattle.std.proofs.Common.{◌∙◌, sym}
use Rattle.columns.proofs.TextLists.{texts_counted}
use Rattle.columns.proofs.text.TextColumn.len.Goals as goal

pub returns : goal.returns
returns c = c.len.ensures ∙ sym (texts_counted _ _ _ _ c.self.view_is)
