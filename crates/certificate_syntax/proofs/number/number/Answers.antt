use Rattle.std.proofs.Common.{◌<◌, length, sym, arith}
use Rattle.std.proofs.lemmas.Bool.{eqb-true}
use Rattle.std.proofs.lemmas.Bool.Decides.{nat_tests}
use Rattle.certificate_syntax.specs.Reading.{NumberIn}
use Rattle.certificate_syntax.proofs.Sequences.{stopped}
use Rattle.certificate_syntax.proofs.Digits.{no_digits, leading_zero, too_great, number_only}
use Rattle.certificate_syntax.proofs.number.number.Goals as goal

pub returns-then-is_empty : goal.returns-then-is_empty
returns-then-is_empty c =
    stopped (NumberIn c.args.text.now) c.stop_before.result _ _ c.stop_before.ensures
    (no_digits c.args.text.now c.split_digits.result.0.now c.split_digits.result.1.now c.split_digits.ensures (eqb-true _ _ (sym c.if-is_empty.ensures)))

pub returns-then-has_leading_zero : goal.returns-then-has_leading_zero
returns-then-has_leading_zero c =
    stopped (NumberIn c.args.text.now) c.stop_before-then-has_leading_zero.result _ _ c.stop_before-then-has_leading_zero.ensures
    (leading_zero c.args.text.now c.split_digits.result.0.now c.split_digits.result.1.now c.split_digits.ensures c.if-has_leading_zero.ensures.yes.0 c.if-has_leading_zero.ensures.yes.1)

pub returns-in-Some : goal.returns-in-Some
returns-in-Some c =
    let some : 0 < length c.split_digits.result.0.now = grind (arith, nat_tests, c.if-is_empty.ensures) in
    number_only c.args.text.now c.split_digits.result.0.now c.split_digits.result.1.now c.in-Some.value c.split_digits.ensures some
    (λ e. omega (arith, some, c.if-has_leading_zero.ensures.no e)) c.in-Some.ensures.value.0 c.in-Some.ensures.value.1

pub returns-in-None : goal.returns-in-None
returns-in-None c =
    stopped (NumberIn c.args.text.now) c.stop_before-in-None.result _ _ c.stop_before-in-None.ensures
    (too_great c.args.text.now c.split_digits.result.0.now c.split_digits.result.1.now c.split_digits.ensures c.in-None.ensures.beyond)
