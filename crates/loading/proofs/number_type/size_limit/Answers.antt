use Rattle.std.proofs.Common.{◌^◌, arith}
use Rattle.loading.proofs.Scaling.{power_is_within}
use Rattle.loading.proofs.number_type.size_limit.Goals as goal

pub pow-requires : goal.pow-requires
pow-requires c =
    let valid = rw c.in-Numeric.is at c.requires in
    rw c.from-in-Numeric.ensures (omega (arith, power_is_within _ 18 valid.1))

pub returns-in-Numeric-clause-bound : goal.returns-in-Numeric-clause-bound
returns-in-Numeric-clause-bound c =
    let valid = rw c.in-Numeric.is at c.requires in
    rw (c.from-in-Numeric-2.ensures, c.pow.ensures, c.from-in-Numeric.ensures) (power_is_within _ 18 valid.1)
