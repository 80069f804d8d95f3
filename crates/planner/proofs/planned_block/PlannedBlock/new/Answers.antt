use Rattle.std.proofs.Common.{sym, subst}
use Rattle.definitions.specs.Plans.Exact.{IsCertified}
use Rattle.plan_tree.specs.Certificates.{certificate_of}
use Rattle.plan_tree.specs.Plans.{plan_of}
use Rattle.planner.proofs.planned_block.PlannedBlock.new.Goals as goal

pub returns : goal.returns
returns c = record {
  own = c.in_ok-own.ensures;
  certified =
      subst (λ s. IsCertified s (plan_of c.in_ok-plan.plan) (certificate_of c.in_ok-plan.certificate)) (sym c.in_ok-own.ensures.space)
      (c.in_ok-plan.ensures.valid, c.in_ok-plan.ensures.exact, c.in_ok-plan.ensures.least);
  short = c.in_ok-plan.ensures.short;
}
