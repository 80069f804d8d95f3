use Rattle.plan_tree.specs.Versions.{version_of}
use Rattle.certificate_syntax.specs.Said.{plan_said}
use Rattle.certificate_syntax.specs.Reading.{PlanLineIn}
use Rattle.certificate_syntax.proofs.Sequences.{at_exit, both, first, first_refused, second, then_only, then_refused}
use Rattle.certificate_syntax.proofs.Lines.{plan_line_tells}
use Rattle.certificate_syntax.proofs.text.plan_line.Goals as goal

pub returns-in_err-text : goal.returns-in_err-text
returns-in_err-text c =
    at_exit plan_said (PlanLineIn (version_of c.args.version) c.args.text.now) c.from_residual.result c.in_err-text.field-0.0 c.from_residual.ensures.1
    (first _ _ _ _ (plan_line_tells (version_of c.args.version) c.args.text.now) _ c.in_err-text.ensures)

pub returns-in_err-plan : goal.returns-in_err-plan
returns-in_err-plan c =
    at_exit plan_said (PlanLineIn (version_of c.args.version) c.args.text.now) c.from_residual-in_err-plan.result c.in_err-plan.field-0.0 c.from_residual-in_err-plan.ensures.1
    (second _ _ _ _ (plan_line_tells (version_of c.args.version) c.args.text.now) tt c.in_ok-text.text.now c.in_ok-text.ensures _ (first_refused _ _ _ c.in_err-plan.ensures))

pub returns-in_err-text-2 : goal.returns-in_err-text-2
returns-in_err-text-2 c =
    at_exit plan_said (PlanLineIn (version_of c.args.version) c.args.text.now) c.from_residual-in_err-text-2.result c.in_err-text-2.field-0.0 c.from_residual-in_err-text-2.ensures.1
    (second _ _ _ _ (plan_line_tells (version_of c.args.version) c.args.text.now) tt c.in_ok-text.text.now c.in_ok-text.ensures _ (then_refused _ _ (plan_said c.in_ok-plan.plan) c.in_ok-plan.text.now _ c.in_ok-plan.ensures c.in_err-text-2.ensures))

pub returns : goal.returns
returns c =
    both _ _ _ _ (plan_line_tells (version_of c.args.version) c.args.text.now) tt c.in_ok-text.text.now c.in_ok-text.ensures ((plan_said c.in_ok-plan.plan), tt) c.in_ok-text-2.text.now
    (then_only _ _ (plan_said c.in_ok-plan.plan) c.in_ok-plan.text.now tt c.in_ok-text-2.text.now c.in_ok-plan.ensures c.in_ok-text-2.ensures)
