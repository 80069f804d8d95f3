use Rattle.plan_tree.specs.Versions.{version_of}
use Rattle.certificate_syntax.specs.declared.plan.Around.TheVariants as around
use Rattle.certificate_syntax.specs.Said.{plan_said}
use Rattle.certificate_syntax.specs.Reading.{WrappedIn}
use Rattle.certificate_syntax.proofs.Sequences.{at_exit, at_memory, first, second}
use Rattle.certificate_syntax.proofs.Plans.{loop_tells}
use Rattle.certificate_syntax.proofs.plan.read_loop.Goals as goal

pub returns-in_err-text : goal.returns-in_err-text
returns-in_err-text c =
    at_exit plan_said (WrappedIn (version_of c.args.version) around.Loop (plan_said c.args.outer) c.args.text.now) c.from_residual.result c.in_err-text.field-0.0 c.from_residual.ensures.1
    (first _ _ _ _ (loop_tells (version_of c.args.version) (plan_said c.args.outer) c.args.text.now) _ c.in_err-text.ensures)

pub returns-in_err-path : goal.returns-in_err-path
returns-in_err-path c =
    at_exit plan_said (WrappedIn (version_of c.args.version) around.Loop (plan_said c.args.outer) c.args.text.now) c.from_residual-in_err-path.result c.in_err-path.field-0.0 c.from_residual-in_err-path.ensures.1
    (second _ _ _ _ (loop_tells (version_of c.args.version) (plan_said c.args.outer) c.args.text.now) tt c.in_ok-text.text.now c.in_ok-text.ensures _ c.in_err-path.ensures)

pub returns-in_err-outer : goal.returns-in_err-outer
returns-in_err-outer c = at_memory plan_said (WrappedIn (version_of c.args.version) around.Loop (plan_said c.args.outer) c.args.text.now) c.from_residual-in_err-outer.result c.from_residual-in_err-outer.ensures.1
