use Rattle.std.proofs.Common.{map}
use Rattle.plan_tree.specs.Versions.{version_of}
use Rattle.certificate_syntax.specs.Said.{plan_said, state_said, said_of}
use Rattle.certificate_syntax.specs.Reading.{TextIn}
use Rattle.certificate_syntax.proofs.Sequences.{at_exit, both, first, first_refused, second, then_only, then_refused}
use Rattle.certificate_syntax.proofs.Lines.{text_tells}
use Rattle.certificate_syntax.proofs.text.lines.Goals as goal

pub returns-in_err-block : goal.returns-in_err-block
returns-in_err-block c =
    at_exit said_of (TextIn (version_of c.args.version) c.args.text.now) c.from_residual.result c.in_err-block.field-0.0 c.from_residual.ensures.1
    (first _ _ _ _ (text_tells (version_of c.args.version) c.args.text.now) _ c.in_err-block.ensures)

pub returns-in_err-plan : goal.returns-in_err-plan
returns-in_err-plan c =
    at_exit said_of (TextIn (version_of c.args.version) c.args.text.now) c.from_residual-in_err-plan.result c.in_err-plan.field-0.0 c.from_residual-in_err-plan.ensures.1
    (second _ _ _ _ (text_tells (version_of c.args.version) c.args.text.now) c.in_ok-block.block c.in_ok-block.text.now c.in_ok-block.ensures _ (first_refused _ _ _ c.in_err-plan.ensures))

pub returns-in_err-target : goal.returns-in_err-target
returns-in_err-target c =
    at_exit said_of (TextIn (version_of c.args.version) c.args.text.now) c.from_residual-in_err-target.result c.in_err-target.field-0.0 c.from_residual-in_err-target.ensures.1
    (second _ _ _ _ (text_tells (version_of c.args.version) c.args.text.now) c.in_ok-block.block c.in_ok-block.text.now c.in_ok-block.ensures _ (then_refused _ _ (plan_said c.in_ok-plan.plan) c.in_ok-plan.text.now _ c.in_ok-plan.ensures (first_refused _ _ _ c.in_err-target.ensures)))

pub returns-in_err-states : goal.returns-in_err-states
returns-in_err-states c =
    at_exit said_of (TextIn (version_of c.args.version) c.args.text.now) c.from_residual-in_err-states.result c.in_err-states.field-0.0 c.from_residual-in_err-states.ensures.1
    (second _ _ _ _ (text_tells (version_of c.args.version) c.args.text.now) c.in_ok-block.block c.in_ok-block.text.now c.in_ok-block.ensures _ (then_refused _ _ (plan_said c.in_ok-plan.plan) c.in_ok-plan.text.now _ c.in_ok-plan.ensures (then_refused _ _ c.in_ok-target.target c.in_ok-target.text.now _ c.in_ok-target.ensures (first_refused _ _ _ c.in_err-states.ensures))))

pub returns-in_err-text : goal.returns-in_err-text
returns-in_err-text c =
    at_exit said_of (TextIn (version_of c.args.version) c.args.text.now) c.from_residual-in_err-text.result c.in_err-text.field-0.0 c.from_residual-in_err-text.ensures.1
    (second _ _ _ _ (text_tells (version_of c.args.version) c.args.text.now) c.in_ok-block.block c.in_ok-block.text.now c.in_ok-block.ensures _ (then_refused _ _ (plan_said c.in_ok-plan.plan) c.in_ok-plan.text.now _ c.in_ok-plan.ensures (then_refused _ _ c.in_ok-target.target c.in_ok-target.text.now _ c.in_ok-target.ensures (then_refused _ _ (map state_said c.in_ok-states.states.items) c.in_ok-states.text.now _ c.in_ok-states.ensures c.in_err-text.ensures))))

pub returns : goal.returns
returns c =
    both _ _ _ _ (text_tells (version_of c.args.version) c.args.text.now) c.in_ok-block.block c.in_ok-block.text.now c.in_ok-block.ensures ((plan_said c.in_ok-plan.plan), (c.in_ok-target.target, ((map state_said c.in_ok-states.states.items), tt))) c.in_ok-text.text.now
    (then_only _ _ (plan_said c.in_ok-plan.plan) c.in_ok-plan.text.now (c.in_ok-target.target, ((map state_said c.in_ok-states.states.items), tt)) c.in_ok-text.text.now c.in_ok-plan.ensures (then_only _ _ c.in_ok-target.target c.in_ok-target.text.now ((map state_said c.in_ok-states.states.items), tt) c.in_ok-text.text.now c.in_ok-target.ensures (then_only _ _ (map state_said c.in_ok-states.states.items) c.in_ok-states.text.now tt c.in_ok-text.text.now c.in_ok-states.ensures c.in_ok-text.ensures)))
