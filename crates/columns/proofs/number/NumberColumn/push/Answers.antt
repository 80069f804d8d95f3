use Rattle.std.proofs.Common.{◌≡◌, ◌∙◌, rules, true}
use Rattle.std.specs.Result.{is_ok}
use Rattle.std.specs.Int.{w64}
use Rattle.std.specs.Prelude.{FitsSigned}
use Rattle.std.proofs.lemmas.Int.{to_z-of_z}
use Rattle.columns.proofs.NumberLists.{pushed_numbers}
use Rattle.columns.proofs.number.NumberColumn.push.Goals as goal

pub returns-clause-ok : goal.returns-clause-ok
returns-clause-ok c =
    let good : is_ok c.push-2.result ≡ true = search rules in
    let units = rw (good, c.reserve.ensures.items) at c.push-2.ensures.items in
    let fits : FitsSigned w64 c.unwrap_or.result = search rules in
    pushed_numbers _ _ _ _ _ _ c.args.units _ _ c.self.invariant.paired c.self.view_is units c.in_ok-push.ensures.ok (to_z-of_z w64 _ fits ∙ c.unwrap_or.ensures) c.is_none.ensures
