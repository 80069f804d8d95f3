use Rattle.std.proofs.Common.{subst}
use Rattle.definitions.specs.Plans.PlanSpace.{GivesRequired, InSpace}
use Rattle.plan_tree.specs.Plans.{plan_of}
use Rattle.cases_plans.proofs.selecting.take_plan.Goals as goal

pub returns-then-may_run-clause-ready : goal.returns-then-may_run-clause-ready
returns-then-may_run-clause-ready c = λ db blocks number is. record {
  database = is.database;
  valid = is.valid;
  block = is.block;
  space = is.space;
  within = subst (λ space. InSpace space (plan_of c.args.plan)) is.space c.if-may_run.ensures.0;
  required = subst (λ space. GivesRequired space (plan_of c.args.plan)) is.space c.if-may_run.ensures.1;
  answerable = is.answerable;
  late = is.late;
  asked = is.asked;
  rising = is.rising;
  seen = is.seen;
  parameters = is.parameters;
}
