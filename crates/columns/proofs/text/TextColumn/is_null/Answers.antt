use Rattle.columns.proofs.Lookups.{text_absence}
use Rattle.columns.proofs.text.TextColumn.is_null.Goals as goal

pub returns : goal.returns
returns c = text_absence _ _ _ _ c.args.row _ c.self.view_is c.is_filled.ensures.value
