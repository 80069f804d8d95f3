use Rattle.std.proofs.Common.{refl, lit≤}
use Rattle.definitions_execution.proofs.matched_keys.Goals as goal

pub returns-clause-run : goal.returns-clause-run
returns-clause-run c = refl

pub returns-clause-rows : goal.returns-clause-rows
returns-clause-rows c = (refl, refl, refl)

pub returns-clause-parts : goal.returns-clause-parts
returns-clause-parts c = (refl, refl, (refl, (refl, refl)), (refl, (refl, refl)))

pub returns-clause-paths : goal.returns-clause-paths
returns-clause-paths c = ((3, lit≤ tt, refl), (6, lit≤ tt, refl))
