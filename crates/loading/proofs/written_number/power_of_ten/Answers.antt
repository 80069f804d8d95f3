use Rattle.std.proofs.Common.{arith}
use Rattle.definitions.proofs.Ranking.{power_is_positive}
use Rattle.loading.proofs.Scaling.{power_is_within}
use Rattle.loading.proofs.written_number.power_of_ten.Goals as goal

pub pow-requires : goal.pow-requires
pow-requires c = omega (arith, power_is_within _ 38 c.requires)

pub returns-clause-positive : goal.returns-clause-positive
returns-clause-positive c = rw c.pow.ensures (power_is_positive c.args.exponent)
