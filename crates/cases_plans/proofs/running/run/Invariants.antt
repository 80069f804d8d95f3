use Rattle.std.proofs.Common.{[], length}
use Rattle.operators.specs.Running.{left_of, IsPipeline}
use Rattle.cases_plans.proofs.running.run.Given as goal

abbrev pub invariant-composites : goal.invariant-composites
invariant-composites l = IsPipeline l.pipeline []

abbrev pub decreases-composites : goal.decreases-composites
decreases-composites l = length (left_of l.pipeline [])
