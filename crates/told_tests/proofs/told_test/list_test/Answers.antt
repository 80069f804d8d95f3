use Rattle.std.proofs.Common.{◌∙◌, refl, ap, subst, ◌<◌, length, map}
use Rattle.std.specs.Prelude.{IfSome, OnSome}
use Rattle.definitions.specs.Truth.{unless}
use Rattle.sqlvalue.specs.Owned.{owned_value}
use Rattle.told_tests.specs.UnitSets.{has, HasUnitsOf}
use Rattle.told_tests.proofs.ToldNumbers.{unknown_in_list, unless_known}
use Rattle.told_tests.proofs.told_test.list_test.Goals as goal

pub returns-in-Ok-Some : goal.returns-in-Ok-Some
returns-in-Ok-Some c =
    let values = c.args.values.now in
    let units : HasUnitsOf c.args.scale (map owned_value values) c.in-Ok-Some.units = subst (λ set. IfSome set (HasUnitsOf c.args.scale (map owned_value values))) c.in-Ok-Some.field-0-is c.in-Ok-Some.ensures.units in
    let some : 0 < length values = subst (λ set. OnSome set (0 < length values)) c.in-Ok-Some.field-0-is c.in-Ok-Some.ensures.some in
    record {
      column = refl;
      scale = refl;
      lists = λ unit. ap (unless c.args.negated) (units unit) ∙ unless_known c.args.negated (has c.in-Ok-Some.units unit);
      comparison = refl;
      null = unknown_in_list owned_value values some;
    }
