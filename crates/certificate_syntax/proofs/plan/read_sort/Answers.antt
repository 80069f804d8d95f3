use Rattle.plan_tree.specs.Versions.{version_of}
use Rattle.certificate_syntax.specs.declared.plan.Around.TheVariants as around
use Rattle.certificate_syntax.specs.Said.{plan_said}
use Rattle.certificate_syntax.specs.Reading.{WrappedIn}
use Rattle.certificate_syntax.proofs.Sequences.{refused_told, at_exit, at_memory}
use Rattle.certificate_syntax.proofs.Plans.{sort_tells}
use Rattle.certificate_syntax.proofs.plan.read_sort.Goals as goal

pub returns-in_err-order : goal.returns-in_err-order
returns-in_err-order c =
    at_exit plan_said (WrappedIn (version_of c.args.version) around.Sort (plan_said c.args.input) c.args.text.now) c.from_residual.result c.in_err-order.field-0.0 c.from_residual.ensures.1
    (refused_told _ _ _ (sort_tells (version_of c.args.version) (plan_said c.args.input) c.args.text.now) _ c.in_err-order.ensures)

pub returns-in_err-input : goal.returns-in_err-input
returns-in_err-input c = at_memory plan_said (WrappedIn (version_of c.args.version) around.Sort (plan_said c.args.input) c.args.text.now) c.from_residual-in_err-input.result c.from_residual-in_err-input.ensures.1
