use Rattle.sqlr.proofs.EndAlike.{runs_end_alike}
use Rattle.sqlr.proofs.laws.runs_end_alike.Goals as goal

pub returns : goal.returns
returns g c = runs_end_alike g.L.Library.answers c.load_has_one_outcome.ensures
