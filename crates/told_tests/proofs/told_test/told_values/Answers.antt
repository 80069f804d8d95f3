use Rattle.std.proofs.Common.{◌∙◌, ap, map}
use Rattle.sqlvalue.specs.Owned.{owned_value}
use Rattle.subqueries.specs.Keeping.{last_of_option, told_last}
use Rattle.told_tests.proofs.ToldNumbers.{got_at, told_is}
use Rattle.told_tests.proofs.told_test.told_values.Goals as goal

pub returns-in-Ok : goal.returns-in-Ok
returns-in-Ok c =
    let (inside, is, so, everywhere, others) = c.in_ok-get.ensures.lookup in
    ap last_of_option (got_at c.args.results.now c.args.block c.in_ok-get.field-0.now inside is) ∙ told_is (told_last c.in_ok-get.field-0.now) (map owned_value c.in-Ok.values.now) c.in-Ok.ensures
