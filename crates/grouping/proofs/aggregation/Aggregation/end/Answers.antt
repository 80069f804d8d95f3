use Rattle.std.proofs.Common.{is_some}
use Rattle.grouping.proofs.Distinct.{chosen_there}
use Rattle.grouping.specs.Aggregating.{chosen}
use Rattle.grouping.proofs.aggregation.Aggregation.end.Goals as goal

pub returns : goal.returns
returns c shape vs sums all h = c.end.ensures shape (chosen (is_some c.args.self.now.seen) vs) sums (chosen_there (is_some c.args.self.now.seen) shape vs all) h.running
