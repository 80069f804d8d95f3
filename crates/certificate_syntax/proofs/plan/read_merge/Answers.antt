use Rattle.plan_tree.specs.Versions.{version_of}
use Rattle.certificate_syntax.specs.declared.plan.Around.TheVariants as around
use Rattle.certificate_syntax.specs.Said.{plan_said}
use Rattle.certificate_syntax.specs.Reading.{WrappedIn}
use Rattle.certificate_syntax.proofs.Sequences.{at_exit, at_memory, first, first_refused, second, then_refused}
use Rattle.certificate_syntax.proofs.Plans.{merge_tells}
use Rattle.certificate_syntax.proofs.plan.read_merge.Goals as goal

pub returns-in_err-conjunct : goal.returns-in_err-conjunct
returns-in_err-conjunct c =
    at_exit plan_said (WrappedIn (version_of c.args.version) around.Merge (plan_said c.args.outer) c.args.text.now) c.from_residual.result c.in_err-conjunct.field-0.0 c.from_residual.ensures.1
    (first _ _ _ _ (merge_tells (version_of c.args.version) (plan_said c.args.outer) c.args.text.now) _ c.in_err-conjunct.ensures)

pub returns-in_err-sorted : goal.returns-in_err-sorted
returns-in_err-sorted c =
    at_exit plan_said (WrappedIn (version_of c.args.version) around.Merge (plan_said c.args.outer) c.args.text.now) c.from_residual-in_err-sorted.result c.in_err-sorted.field-0.0 c.from_residual-in_err-sorted.ensures.1
    (second _ _ _ _ (merge_tells (version_of c.args.version) (plan_said c.args.outer) c.args.text.now) c.in_ok-conjunct.conjunct c.in_ok-conjunct.text.now c.in_ok-conjunct.ensures _ (first_refused _ _ _ c.in_err-sorted.ensures))

pub returns-in_err-path : goal.returns-in_err-path
returns-in_err-path c =
    at_exit plan_said (WrappedIn (version_of c.args.version) around.Merge (plan_said c.args.outer) c.args.text.now) c.from_residual-in_err-path.result c.in_err-path.field-0.0 c.from_residual-in_err-path.ensures.1
    (second _ _ _ _ (merge_tells (version_of c.args.version) (plan_said c.args.outer) c.args.text.now) c.in_ok-conjunct.conjunct c.in_ok-conjunct.text.now c.in_ok-conjunct.ensures _ (then_refused _ _ c.in_ok-sorted.sorted c.in_ok-sorted.text.now _ c.in_ok-sorted.ensures c.in_err-path.ensures))

pub returns-in_err-outer : goal.returns-in_err-outer
returns-in_err-outer c = at_memory plan_said (WrappedIn (version_of c.args.version) around.Merge (plan_said c.args.outer) c.args.text.now) c.from_residual-in_err-outer.result c.from_residual-in_err-outer.ensures.1
