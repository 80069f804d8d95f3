use Rattle.subqueries.proofs.KeptPlaces.{none_left_out_of_any}
use Rattle.subqueries.proofs.forgetting.bound_memory.Goals as goal

pub returns-else-bytes_of_all-gt-MOST_BYTES : goal.returns-else-bytes_of_all-gt-MOST_BYTES
returns-else-bytes_of_all-gt-MOST_BYTES c = none_left_out_of_any c.args.results.now
