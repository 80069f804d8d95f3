use Rattle.definitions.proofs.EstimateTheory.Targets.{by_target}
use Rattle.definitions.proofs.estimates.target_suffices.Goals as goal

pub returns : goal.returns
returns c space plan target small inside gives costs below = by_target space plan target small inside gives costs below
