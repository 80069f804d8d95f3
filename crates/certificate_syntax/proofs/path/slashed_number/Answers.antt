use Rattle.std.proofs.Common.{ℕ}
use Rattle.certificate_syntax.specs.Reading.{SlashedIn}
use Rattle.certificate_syntax.proofs.Sequences.{first, last, at_exit}
use Rattle.certificate_syntax.proofs.Paths.{slashed_tells}
use Rattle.certificate_syntax.proofs.path.slashed_number.Goals as goal

pub returns-in_err-text : goal.returns-in_err-text
returns-in_err-text c =
    at_exit (λ (n : ℕ). n) (SlashedIn c.args.text.now) c.from_residual.result c.in_err-text.field-0.0 c.from_residual.ensures.1
    (first _ _ _ _ (slashed_tells c.args.text.now) _ c.in_err-text.ensures)

pub returns : goal.returns
returns c = last _ _ _ _ (slashed_tells c.args.text.now) (λ (n : ℕ). n) tt c.in_ok-text.text.now c.in_ok-text.ensures c.number.result c.number.ensures
