use Rattle.definitions.proofs.QueryTheory.SomeOutcome.{some_outcome_is_allowed}
use Rattle.definitions.proofs.queries.some_outcome_is_allowed.Goals as goal

pub returns : goal.returns
returns c = some_outcome_is_allowed
