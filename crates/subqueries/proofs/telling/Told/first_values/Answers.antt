use Rattle.std.proofs.Common.{ap}
use Rattle.subqueries.specs.FirstValues.{values_in}
use Rattle.subqueries.specs.Telling.{told_in}
use Rattle.subqueries.proofs.ToldValues.{values_told}
use Rattle.subqueries.proofs.telling.Told.first_values.Goals as goal

pub returns-in-Values : goal.returns-in-Values
returns-in-Values c = values_told (told_in c.args.self.now) (values_in c.in-Values.values) _ (ap told_in c.in-Values.is) c.as_slice.ensures
