use Rattle.grouping.proofs.Distinct.{of_nothing}
use Rattle.grouping.proofs.aggregation.Aggregation.new.Goals as goal

pub returns-clause-nothing : goal.returns-clause-nothing
returns-clause-nothing c shape = of_nothing shape _ (c.new.ensures.nothing shape) c.if_distinct.ensures.nothing
