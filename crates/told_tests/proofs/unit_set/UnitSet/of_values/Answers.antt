use Rattle.std.proofs.Common.{rules, to_z, of_z, ◌≡◌, ◌∙◌, sym, ap, subst, ◌<◌, length, map, get_or, ℤ, arith}
use Rattle.std.specs.Int.{w64}
use Rattle.definitions.specs.Value.{Null}
use Rattle.std.proofs.lemmas.List.{get_or-map, length-map}
use Rattle.sqlvalue.specs.Owned.{owned_value}
use Rattle.told_tests.specs.UnitSets.{IsPlaceOf}
use Rattle.definitions.specs.Truth.{known}
use Rattle.told_tests.proofs.UnitFlags.{all_clear, one_more_flag}
use Rattle.told_tests.proofs.unit_set.UnitSet.of_values.Goals as goal

pub values-init : goal.values-init
values-init c = λ unit. sym (ap known (all_clear _ _ c.new-flags.result.items c.resize.new.self.items c.new-flags.ensures.items c.in_ok-resize.ensures.items _))

pub values-preserved : goal.values-preserved
values-preserved c =
    let within : c.values.value-index < length c.args.values.now = search rules in
    let least : ℤ = to_z w64 (of_z w64 c.in-Some.least) in
    let there : get_or (map owned_value c.args.values.now) c.values.value-index Null ≡ owned_value c.value-item.result =
    get_or-map owned_value c.args.values.now c.values.value-index c.value-item.result Null within ∙ ap owned_value (sym c.value-item.is) in
    one_more_flag c.args.scale (map owned_value c.args.values.now) c.values.value-index Null (omega (arith, within, length-map c.args.values.now owned_value)) c.values.flags.items c.in-Some-place_in.place
    (omega (arith, c.if-place-len.false, c.len.ensures)) least (subst (λ v. IsPlaceOf c.args.scale least v c.in-Some-place_in.place) (sym there) c.in-Some-place_in.ensures) c.values.invariant
