use Rattle.std.proofs.Common.{◌∙◌, ap, sym, subst}
use Rattle.std.specs.Prelude.{IfSome, filter}
use Rattle.definitions.specs.Queries.Conjuncts.{is_late}
use Rattle.subqueries.specs.Keeping.{told_by}
use Rattle.told_tests.specs.ToldTests.{IsTestOfAll}
use Rattle.told_tests.proofs.told_test.test_of.Goals as goal

pub returns : goal.returns
returns c =
    let only = ap (filter is_late) (sym c.conjuncts.ensures) ∙ c.in_ok-conjunct.ensures in
    subst (λ late. IfSome c.conjunct_test.result (λ test. IsTestOfAll (told_by c.args.results.now) test late)) (sym only) c.conjunct_test.ensures
