use Rattle.definitions_answers.proofs.Aggregates.{aggregate_takes_any_order}
use Rattle.definitions_answers.proofs.aggregate_takes_any_order.Goals as goal

pub returns : goal.returns
returns c function shape vs ws sums h p = aggregate_takes_any_order function shape vs ws sums h p
