use Rattle.definitions.proofs.Ranking.{power_is_positive}
use Rattle.sqlvalue.proofs.Comparing.{power_is_bounded}
use Rattle.sqlvalue.proofs.number.power_of_ten.Goals as goal

pub returns-clause-positive : goal.returns-clause-positive
returns-clause-positive c = rw (c.pow.ensures, c.from.ensures) (power_is_positive c.args.scale)

pub returns-clause-bounded : goal.returns-clause-bounded
returns-clause-bounded c = rw (c.pow.ensures, c.from.ensures) (power_is_bounded c.args.scale c.requires)
