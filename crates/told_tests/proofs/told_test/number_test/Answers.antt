use Rattle.std.proofs.Common.{rules, to_z-of_z, refl}
use Rattle.std.specs.Prelude.{FitsSigned}
use Rattle.std.specs.Int.{w64}
use Rattle.sqlvalue.specs.Meaning.{op_of}
use Rattle.told_tests.specs.ToldTests.{IsScaledTo}
use Rattle.told_tests.proofs.ToldNumbers.{compares_at}
use Rattle.told_tests.proofs.told_test.number_test.Goals as goal

pub returns : goal.returns
returns c =
    let number = c.args.number in
    let found = c.in_ok-factor.field-0 in
    let f : FitsSigned w64 found.factor = search rules in
    let u : FitsSigned w64 found.units = search rules in
    let is : IsScaledTo c.args.scale number found = c.in_ok-factor.ensures in
    simp (to_z-of_z, f, u) (record { column = refl; scale = refl; comparison = refl; compares = compares_at (op_of c.args.op) found.factor found.units number.units c.args.scale number.scale is.factor is.units })
