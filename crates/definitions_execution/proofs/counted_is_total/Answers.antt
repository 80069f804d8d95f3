use Rattle.definitions_execution.proofs.Totals.{counted, by_behind, behind_same}
use Rattle.definitions_execution.proofs.counted_is_total.Goals as goal

pub returns-clause-counted : goal.returns-clause-counted
returns-clause-counted c version context block plan total own is = counted version context block plan total own is

pub returns-clause-block : goal.returns-clause-block
returns-clause-block c version db blocks plans k b p outer h g = by_behind version db blocks plans k b p outer h g

pub returns-clause-behind : goal.returns-clause-behind
returns-clause-behind c version db blocks plans k j h = behind_same version db blocks plans k j h
