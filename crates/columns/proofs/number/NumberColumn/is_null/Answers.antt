use Rattle.columns.proofs.Lookups.{number_absence}
use Rattle.columns.proofs.number.NumberColumn.is_null.Goals as goal

pub returns : goal.returns
returns c = number_absence _ _ _ _ c.args.row _ c.self.invariant.paired c.self.view_is c.is_filled.ensures.value
