use Rattle.std.proofs.Common.{Vec, Global, map, sym, ◌∙◌}
use Rattle.std.proofs.lemmas.List.{map-append}
use Rattle.certificate_syntax.specs.declared.written.WrittenState.{WrittenState}
use Rattle.certificate_syntax.specs.Said.{state_said}
use Rattle.certificate_syntax.specs.Reading.{AllIn, StateIn}
use Rattle.certificate_syntax.proofs.Sequences.{at_exit}
use Rattle.certificate_syntax.proofs.Lists.{goes_on, ended, refused}
use Rattle.certificate_syntax.proofs.Lines.{state_starts}
use Rattle.certificate_syntax.proofs.text.states.Goals as goal

pub returns-in_err-state : goal.returns-in_err-state
returns-in_err-state c =
    at_exit (λ (states : Vec WrittenState Global). map state_said states.items) (AllIn StateIn 83 c.args.text.now) c.from_residual.result c.in_err-state.field-0.0 c.from_residual.ensures.1
    (refused StateIn 83 c.args.text.now (map state_said c.states.states.items) c.states.rest.now c.states.invariant (sym c.first_byte.ensures ∙ c.states-test.true) _ c.in_err-state.ensures)

pub states-preserved : goal.states-preserved
states-preserved c =
    rw (c.in_ok-push.ensures.items, map-append)
    (goes_on StateIn 83 state_starts c.args.text.now (map state_said c.states.states.items) c.states.rest.now (state_said c.in_ok-state.state) c.in_ok-state.behind.now c.states.invariant c.in_ok-state.ensures)

pub returns : goal.returns
returns c =
    ended StateIn 83 state_starts c.args.text.now (map state_said c.states.states.items) c.states.rest.now c.states.invariant (λ e. c.states-test.false (c.first_byte.ensures ∙ e))
