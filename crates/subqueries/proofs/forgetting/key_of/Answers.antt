use Rattle.subqueries.proofs.KeptPlaces.{none_left_out_of_any}
use Rattle.subqueries.proofs.forgetting.key_of.Goals as goal

pub returns-in-Ok-clause-results : goal.returns-in-Ok-clause-results
returns-in-Ok-clause-results g c = none_left_out_of_any c.args.results.now
