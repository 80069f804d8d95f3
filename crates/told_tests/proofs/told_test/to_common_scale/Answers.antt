use Rattle.std.proofs.Common.{rules, to_z-of_z, ◌≡◌, ◌-◌, ◌^◌}
use Rattle.std.specs.Prelude.{pos, ◌*ℤ◌, FitsSigned}
use Rattle.std.specs.Int.{w64}
use Rattle.told_tests.proofs.told_test.to_common_scale.Goals as goal

pub returns : goal.returns
returns c =
    let number = c.args.number in
    let f : FitsSigned w64 c.in_ok-factor.factor = search rules in
    let w : FitsSigned w64 c.in_ok-wider.wider = search rules in
    let o : FitsSigned w64 c.in_ok-whole.field-0 = search rules in
    let u : FitsSigned w64 c.in_ok-units.units = search rules in
    let factor : c.in_ok-factor.factor ≡ pos (10 ^ (number.scale - c.args.scale)) = rw c.saturating_sub.ensures at c.in_ok-factor.ensures in
    let wider : c.in_ok-wider.wider ≡ pos (10 ^ (c.args.scale - number.scale)) = rw c.saturating_sub-2.ensures at c.in_ok-wider.ensures in
    let units : c.in_ok-units.units ≡ number.units *ℤ pos (10 ^ (c.args.scale - number.scale)) = (rw (c.in_ok-whole.ensures, wider) at (simp (to_z-of_z, w, o) at c.in_ok-units.ensures)).1 in
    simp (to_z-of_z, f, u) (record { factor = factor; units = units })
