use Rattle.std.proofs.Common.{arith}
use Rattle.certificate_syntax.proofs.Digits.{value_within}
use Rattle.certificate_syntax.proofs.number.value_of.Goals as goal

pub returns-then-value-gt-LIMIT-clause-beyond : goal.returns-then-value-gt-LIMIT-clause-beyond
returns-then-value-gt-LIMIT-clause-beyond c =
    omega (arith, value_within c.args.digits.now c.digits.digit-index c.digits.value _ c.digits-test.true c.digits.invariant.digits c.digits.invariant.value)
