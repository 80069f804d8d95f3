use Rattle.definitions_execution.proofs.TypedRows.{combinations_typed, composites_typed}
use Rattle.definitions_execution.proofs.EarlyValues.{early_values}
use Rattle.definitions_execution.proofs.early_values_exist.Goals as goal

pub returns-clause-combinations : goal.returns-clause-combinations
returns-clause-combinations c context block combination valid there = combinations_typed context block combination valid there

pub returns-clause-composites : goal.returns-clause-composites
returns-clause-composites c db block composite valid = composites_typed db block composite valid

pub returns-clause-early : goal.returns-clause-early
returns-clause-early c context blocks around n block composite valid formed typed = early_values context blocks around n block composite valid formed typed
