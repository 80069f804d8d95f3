use Rattle.std.proofs.Common.{refl}
use Rattle.definitions_execution.proofs.wrong_steps.Goals as goal

pub returns-clause-nulls : goal.returns-clause-nulls
returns-clause-nulls c = (refl, refl)

pub returns-clause-raw : goal.returns-clause-raw
returns-clause-raw c = (refl, refl, refl)

pub returns-clause-backward : goal.returns-clause-backward
returns-clause-backward c = (refl, refl, refl)

pub returns-clause-late : goal.returns-clause-late
returns-clause-late c = (refl, refl)
