use Rattle.std.proofs.Common.{◌∙◌, sym, ap, map}
use Rattle.std.specs.Prelude.{option_map}
use Rattle.predicates.specs.Parts.{condition_in}
use Rattle.predicates.specs.Views.{membership_of}
use Rattle.sqlvalue.specs.Owned.{owned_value}
use Rattle.subqueries.specs.Keeping.{told_by}
use Rattle.told_tests.proofs.ToldNumbers.{if_some, is_list_test}
use Rattle.told_tests.proofs.told_test.conjunct_test.Goals as goal

pub returns-in_ok-values-in-Some : goal.returns-in_ok-values-in-Some
returns-in_ok-values-in-Some c =
    let conjunct = c.args.conjunct.now in
    let asked = c.in-Some.membership in
    let values = map owned_value c.in_ok-values-in-Some.values.now in
    let is = ap (option_map membership_of) (sym c.in-Some.is) ∙ conjunct.belongs in
    if_some _ _ c.list_test.result
    (λ test lists. is_list_test (told_by c.args.results.now) test asked values c.in_ok-values-in-Some.ensures lists (condition_in conjunct) is)
    c.list_test.ensures
