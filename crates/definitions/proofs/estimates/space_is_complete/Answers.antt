use Rattle.definitions.proofs.EstimateTheory.Complete.{complete}
use Rattle.definitions.proofs.EstimateTheory.FormedSpaces.{formed_has_plans}
use Rattle.definitions.proofs.estimates.space_is_complete.Goals as goal

pub returns-clause-complete : goal.returns-clause-complete
returns-clause-complete c version db block is = complete version db block is

pub returns-clause-formed : goal.returns-clause-formed
returns-clause-formed c = formed_has_plans
