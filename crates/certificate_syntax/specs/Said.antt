-- What the texts of this crate say.
use Rattle.std.specs.Prelude.{map}
use Rattle.definitions.specs.Plans.Path as p
use Rattle.definitions.specs.Plans.Plan as spec
use Rattle.definitions.specs.Plans.Certificate.{StateCost}
use Rattle.definitions.specs.Certificates.Text as t
use Rattle.certificate_syntax.specs.declared.written.WrittenPath.{WrittenPath}
use Rattle.certificate_syntax.specs.declared.written.WrittenPath.TheVariants as path
use Rattle.certificate_syntax.specs.declared.written.WrittenPlan.{WrittenPlan}
use Rattle.certificate_syntax.specs.declared.written.WrittenPlan.TheOpen.{WrittenPlan-F}
use Rattle.certificate_syntax.specs.declared.written.WrittenPlan.TheOpen as plan
use Rattle.certificate_syntax.specs.declared.written.WrittenPlan.TheFolds.{fold-WrittenPlan}
use Rattle.certificate_syntax.specs.declared.written.WrittenState.{WrittenState}
use Rattle.certificate_syntax.specs.declared.written.Written.{Written}

abbrev pub path_said : WrittenPath → p.Path
path_said (path.Segment table) = p.SegmentScan table
path_said (path.Index table index backward) = p.IndexScan table index backward
path_said (path.Match table index conjuncts backward) = p.MatchingScan table index conjuncts.items backward

-- one layer of a plan, the plan below it in its place
abbrev pub plan_layer : WrittenPlan-F spec.Plan → spec.Plan
plan_layer (plan.Access path) = spec.Access (path_said path)
plan_layer (plan.Loop outer path) = spec.Loop outer.value (path_said path)
plan_layer (plan.Merge outer conjunct sorted path) =
    spec.Merge outer.value conjunct (record { path = path_said path; sorted = sorted })
plan_layer (plan.Sort input order) = spec.Sort input.value order

abbrev pub plan_said : WrittenPlan → spec.Plan
plan_said = fold-WrittenPlan spec.Plan plan_layer

abbrev pub state_said : WrittenState → StateCost
state_said s = record { tables = s.tables; order = s.order; cost = s.cost }

abbrev pub said_of : Written → t.Written
said_of w =
    record {
      block = w.block;
      plan = plan_said w.plan;
      certificate =
          record { target = w.target; states = map state_said w.states.items };
    }
