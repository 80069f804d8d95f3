use Rattle.definitions_execution.proofs.BlockFits.{fits}
use Rattle.definitions_execution.proofs.FormedNames.{names_own}
use Rattle.definitions_execution.proofs.blocks_fit.Goals as goal

pub returns-clause-fit : goal.returns-clause-fit
returns-clause-fit c version context block = fits context block version

pub returns-clause-own : goal.returns-clause-own
returns-clause-own c db blocks around n block formed = names_own db blocks around n block formed
