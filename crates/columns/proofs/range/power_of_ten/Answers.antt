use Rattle.std.proofs.Common.{rules}
use Rattle.columns.proofs.Orders.{above_zero}
use Rattle.columns.proofs.range.power_of_ten.Goals as goal

pub returns-clause-positive : goal.returns-clause-positive
returns-clause-positive c = above_zero _ c.args.scale (search rules)
