-- What the comparisons of this crate stand for.
use Rattle.std.specs.Prelude.{option_map}
use Rattle.definitions.specs.Plans.Comparisons as plans
use Rattle.plan_tree.specs.Certificates.{state_of}
use Rattle.plan_tree.specs.Plans.{path_of}
use Rattle.plan_tree.specs.Sets.{set_of}
use Rattle.cert_check.specs.Compared.{Compared}
use Rattle.cert_check.specs.declared.comparison.Comparison.{Comparison}
use Rattle.cert_check.specs.declared.comparison.PlanStep.{PlanStep}
use Rattle.cert_check.specs.declared.comparison.PlanStep.TheVariants as step
use Rattle.cert_check.specs.declared.kept_comparison.KeptComparison.{KeptComparison}
use Rattle.cert_check.specs.declared.kept_comparison.KeptStep.{KeptStep}
use Rattle.cert_check.specs.declared.kept_comparison.KeptStep.TheVariants as kept

abbrev pub step_of : PlanStep → plans.PlanStep
step_of (step.Access path) = plans.AccessStep (path_of path.now)
step_of (step.Loop path) = plans.LoopStep (path_of path.now)
step_of (step.Merge conjunct path sorted) =
    plans.MergeStep conjunct (record { path = path_of path.now; sorted = sorted })
step_of (step.Sort order) = plans.SortStep order

abbrev pub comparison_of : Comparison → Compared
comparison_of c =
    record {
      from = option_map state_of c.from;
      step = step_of c.step;
      tables = set_of c.to.tables;
      order = c.to.order;
      cost = c.cost.number;
      bound = c.bound;
    }

abbrev pub kept_step_of : KeptStep → plans.PlanStep
kept_step_of (kept.Access path) = plans.AccessStep (path_of path)
kept_step_of (kept.Loop path) = plans.LoopStep (path_of path)
kept_step_of (kept.Merge conjunct path sorted) =
    plans.MergeStep conjunct (record { path = path_of path; sorted = sorted })
kept_step_of (kept.Sort order) = plans.SortStep order

abbrev pub kept_comparison_of : KeptComparison → Compared
kept_comparison_of c =
    record {
      from = option_map state_of c.from;
      step = kept_step_of c.step;
      tables = set_of c.to.tables;
      order = c.to.order;
      cost = c.cost.number;
      bound = c.bound;
    }
