use Rattle.std.proofs.Common.{◌≡◌, ◌≢◌, ◌∙◌, ◌+◌, get_or, arith}
use Rattle.definitions.specs.Plans.Plan.{Plan}
use Rattle.plan_tree.specs.Versions.{version_of}
use Rattle.certificate_syntax.specs.declared.written.WrittenPlan.{WrittenPlan}
use Rattle.certificate_syntax.specs.Said.{plan_said}
use Rattle.certificate_syntax.specs.Reading.{WrappedIn, PlanIn}
use Rattle.certificate_syntax.proofs.Sequences.{first, second, last, first_refused, then_reads, at_exit, stopped}
use Rattle.certificate_syntax.proofs.Plans.{no_words, plan_tells}
use Rattle.certificate_syntax.proofs.plan.+plan.Goals as goal

pub returns-in_default : goal.returns-in_default
returns-in_default t c =
    stopped (PlanIn (version_of c.args.version) c.args.words c.args.text.now) c.stop_before.result _ _ c.stop_before.ensures
    (no_words (version_of c.args.version) c.args.words c.args.text.now (omega (arith, c.in_default.ensures)))

pub returns-in_err-around : goal.returns-in_err-around
returns-in_err-around t c =
    let is : c.args.words ≡ c.in-Some.left + 1 = omega (arith, c.in-Some.ensures) in
    let other : get_or c.args.text.now 0 0 ≢ 65 = λ e. c.if-first_byte-eq65.false (c.first_byte.ensures ∙ e) in
    at_exit plan_said (PlanIn (version_of c.args.version) c.args.words c.args.text.now) c.from_residual.result c.in_err-around.field-0.0 c.from_residual.ensures.1
    (first _ _ _ _ (plan_tells (version_of c.args.version) c.args.words c.in-Some.left c.args.text.now is other) _ c.in_err-around.ensures)

pub returns-in_err-below : goal.returns-in_err-below
returns-in_err-below t c =
    let is : c.args.words ≡ c.in-Some.left + 1 = omega (arith, c.in-Some.ensures) in
    let other : get_or c.args.text.now 0 0 ≢ 65 = λ e. c.if-first_byte-eq65.false (c.first_byte.ensures ∙ e) in
    at_exit plan_said (PlanIn (version_of c.args.version) c.args.words c.args.text.now) c.from_residual-in_err-below.result c.in_err-below.field-0.0 c.from_residual-in_err-below.ensures.1
    (second _ _ _ _ (plan_tells (version_of c.args.version) c.args.words c.in-Some.left c.args.text.now is other) c.in_ok-around.around c.in_ok-around.text.now c.in_ok-around.ensures _ (first_refused _ _ _ c.in_err-below.ensures))

pub returns : goal.returns
returns t c =
    let is : c.args.words ≡ c.in-Some.left + 1 = omega (arith, c.in-Some.ensures) in
    let other : get_or c.args.text.now 0 0 ≢ 65 = λ e. c.if-first_byte-eq65.false (c.first_byte.ensures ∙ e) in
    last _ _ _ _ (plan_tells (version_of c.args.version) c.args.words c.in-Some.left c.args.text.now is other) (λ (p : WrittenPlan). (plan_said c.in_ok-below.below, plan_said p)) c.in_ok-around.around c.in_ok-around.text.now c.in_ok-around.ensures c.read_behind.result
    (then_reads _ (λ (p : Plan). WrappedIn (version_of c.args.version) c.in_ok-around.around p) plan_said (plan_said c.in_ok-below.below) c.in_ok-below.text.now c.in_ok-below.ensures c.read_behind.result c.read_behind.ensures)
