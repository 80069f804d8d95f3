use Rattle.plan_tree.specs.Versions.{version_of}
use Rattle.certificate_syntax.specs.Said.{path_said, plan_said}
use Rattle.certificate_syntax.specs.Reading.{PlanIn}
use Rattle.certificate_syntax.proofs.Sequences.{at_exit, both, first, second}
use Rattle.certificate_syntax.proofs.Plans.{of_access, access_tells}
use Rattle.certificate_syntax.proofs.plan.read_access.Goals as goal

pub returns-in_err-text : goal.returns-in_err-text
returns-in_err-text c = λ words some.
    at_exit plan_said (PlanIn (version_of c.args.version) words c.args.text.now) c.from_residual.result c.in_err-text.field-0.0 c.from_residual.ensures.1
    (first _ _ _ _ (access_tells (version_of c.args.version) words c.args.text.now some c.requires) _ c.in_err-text.ensures)

pub returns-in_err-path : goal.returns-in_err-path
returns-in_err-path c = λ words some.
    at_exit plan_said (PlanIn (version_of c.args.version) words c.args.text.now) c.from_residual-in_err-path.result c.in_err-path.field-0.0 c.from_residual-in_err-path.ensures.1
    (second _ _ _ _ (access_tells (version_of c.args.version) words c.args.text.now some c.requires) tt c.in_ok-text.text.now c.in_ok-text.ensures _ c.in_err-path.ensures)

pub returns : goal.returns
returns c = λ words some.
    rw (of_access c.in_ok-path.path)
    (both _ _ _ _ (access_tells (version_of c.args.version) words c.args.text.now some c.requires) tt c.in_ok-text.text.now c.in_ok-text.ensures (path_said c.in_ok-path.path) c.in_ok-path.text.now
    c.in_ok-path.ensures)
