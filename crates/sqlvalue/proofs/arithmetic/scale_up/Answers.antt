use Rattle.sqlvalue.proofs.Calculating.{power_fits}
use Rattle.sqlvalue.proofs.arithmetic.scale_up.Goals as goal

pub pow-requires : goal.pow-requires
pow-requires c = rw c.from.ensures (power_fits c.args.digits c.requires)
