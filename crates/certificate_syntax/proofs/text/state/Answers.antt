use Rattle.certificate_syntax.specs.Said.{state_said}
use Rattle.certificate_syntax.specs.Reading.{StateIn}
use Rattle.certificate_syntax.proofs.Sequences.{at_exit, both, first, first_refused, second, then_only, then_refused}
use Rattle.certificate_syntax.proofs.Lines.{state_tells}
use Rattle.certificate_syntax.proofs.text.state.Goals as goal

pub returns-in_err-tables : goal.returns-in_err-tables
returns-in_err-tables c =
    at_exit state_said (StateIn c.args.text.now) c.from_residual.result c.in_err-tables.field-0.0 c.from_residual.ensures.1
    (first _ _ _ _ (state_tells c.args.text.now) _ c.in_err-tables.ensures)

pub returns-in_err-order : goal.returns-in_err-order
returns-in_err-order c =
    at_exit state_said (StateIn c.args.text.now) c.from_residual-in_err-order.result c.in_err-order.field-0.0 c.from_residual-in_err-order.ensures.1
    (second _ _ _ _ (state_tells c.args.text.now) c.in_ok-tables.tables c.in_ok-tables.text.now c.in_ok-tables.ensures _ (first_refused _ _ _ c.in_err-order.ensures))

pub returns-in_err-cost : goal.returns-in_err-cost
returns-in_err-cost c =
    at_exit state_said (StateIn c.args.text.now) c.from_residual-in_err-cost.result c.in_err-cost.field-0.0 c.from_residual-in_err-cost.ensures.1
    (second _ _ _ _ (state_tells c.args.text.now) c.in_ok-tables.tables c.in_ok-tables.text.now c.in_ok-tables.ensures _ (then_refused _ _ c.in_ok-order.order c.in_ok-order.text.now _ c.in_ok-order.ensures c.in_err-cost.ensures))

pub returns : goal.returns
returns c =
    both _ _ _ _ (state_tells c.args.text.now) c.in_ok-tables.tables c.in_ok-tables.text.now c.in_ok-tables.ensures (c.in_ok-order.order, c.in_ok-cost.cost) c.in_ok-cost.text.now
    (then_only _ _ c.in_ok-order.order c.in_ok-order.text.now c.in_ok-cost.cost c.in_ok-cost.text.now c.in_ok-order.ensures c.in_ok-cost.ensures)
