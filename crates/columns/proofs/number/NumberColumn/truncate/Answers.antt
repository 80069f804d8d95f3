use Rattle.columns.proofs.NumberLists.{cut_numbers, rows_fit}
use Rattle.columns.proofs.number.NumberColumn.truncate.Goals as goal

pub truncate-requires-2 : goal.truncate-requires-2
truncate-requires-2 c = rows_fit _ _ _ _ c.args.rows c.self.invariant.paired c.self.view_is c.requires

pub returns : goal.returns
returns c = cut_numbers _ _ _ _ _ _ c.args.rows c.self.view_is c.truncate.ensures.items c.truncate-2.ensures
