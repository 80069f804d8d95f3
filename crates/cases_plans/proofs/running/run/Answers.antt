use Rattle.plan_tree.specs.Plans.{orders_in, plan_of}
use Rattle.cases_plans.proofs.Planned.{is_plan_of}
use Rattle.cases_plans.proofs.running.run.Goals as goal

pub open-requires-clause-plan : goal.open-requires-clause-plan
open-requires-clause-plan c = is_plan_of c.args.space.now c.args.source.now (plan_of c.args.plan.now) (orders_in c.orders.result.now) c.requires.database c.requires.block c.in-Some.ensures.is_plan c.orders.ensures.exact
