use Rattle.std.proofs.Common.{ℕ, Vec, Global, sym, ◌∙◌}
use Rattle.certificate_syntax.specs.Reading.{AllIn, SlashedIn}
use Rattle.certificate_syntax.proofs.Sequences.{at_exit}
use Rattle.certificate_syntax.proofs.Lists.{goes_on, ended, refused}
use Rattle.certificate_syntax.proofs.Paths.{slash_starts}
use Rattle.certificate_syntax.proofs.path.slashed_numbers.Goals as goal

pub returns-in_err-number : goal.returns-in_err-number
returns-in_err-number c =
    at_exit (λ (numbers : Vec ℕ Global). numbers.items) (AllIn SlashedIn 47 c.args.text.now) c.from_residual.result c.in_err-number.field-0.0 c.from_residual.ensures.1
    (refused SlashedIn 47 c.args.text.now c.numbers.numbers.items c.numbers.rest.now c.numbers.invariant (sym c.first_byte.ensures ∙ c.numbers-test.true) _ c.in_err-number.ensures)

pub numbers-preserved : goal.numbers-preserved
numbers-preserved c =
    rw c.in_ok-push.ensures.items
    (goes_on SlashedIn 47 slash_starts c.args.text.now c.numbers.numbers.items c.numbers.rest.now c.in_ok-number.number c.in_ok-number.behind.now c.numbers.invariant c.in_ok-number.ensures)

pub returns : goal.returns
returns c =
    ended SlashedIn 47 slash_starts c.args.text.now c.numbers.numbers.items c.numbers.rest.now c.numbers.invariant (λ e. c.numbers-test.false (c.first_byte.ensures ∙ e))
