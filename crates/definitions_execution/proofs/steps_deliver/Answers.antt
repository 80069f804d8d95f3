use Rattle.definitions_execution.proofs.Extending.{extends}
use Rattle.definitions_execution.proofs.Plans.{run_serves, merge_serves}
use Rattle.definitions_execution.proofs.SingleSteps.{sort_delivers}
use Rattle.definitions_execution.proofs.Working.{delivered_arranged}
use Rattle.definitions_execution.proofs.steps_deliver.Goals as goal

pub returns-clause-step : goal.returns-clause-step
returns-clause-step c space stored fits tables table order rows composites lt out over serves delivers = extends space stored fits tables table lt out order rows composites serves over delivers

pub returns-clause-run : goal.returns-clause-run
returns-clause-run c space stored fits tables path is = run_serves space stored fits tables path is

pub returns-clause-equal : goal.returns-clause-equal
returns-clause-equal c space stored fits tables order number inner (can, (x, y, (eqs, ne), hx, hy, sat, is)) = merge_serves space stored fits tables number inner x y can.0 eqs hx hy is.0

pub returns-clause-sort : goal.returns-clause-sort
returns-clause-sort c space stored tables order other composites arranged delivers permuted rises = sort_delivers space stored tables order other composites arranged delivers permuted rises

pub returns-clause-arranged : goal.returns-clause-arranged
returns-clause-arranged c space stored tables order composites delivers = delivered_arranged space stored tables order composites delivers
