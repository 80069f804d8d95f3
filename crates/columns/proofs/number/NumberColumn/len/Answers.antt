use Rattle.std.proofs.Common.{◌≡◌, ◌∙◌, sym, length, rules}
use Rattle.columns.proofs.NumberLists.{count}
use Rattle.columns.proofs.number.NumberColumn.len.Goals as goal

pub returns : goal.returns
returns c =
    let n : c.len.result ≡ length c.self.inside.units.items = search rules in
    n ∙ c.self.invariant.paired ∙ sym (count _ _ _ _ c.self.invariant.paired c.self.view_is)
