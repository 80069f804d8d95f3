use Rattle.std.proofs.Common.{ℕ}
use Rattle.certificate_syntax.specs.Words.{word_text}
use Rattle.certificate_syntax.specs.Reading.{NumberBefore}
use Rattle.certificate_syntax.proofs.Sequences.{first, second, both, at_exit}
use Rattle.certificate_syntax.proofs.Digits.{before_tells}
use Rattle.certificate_syntax.proofs.number.number_before.Goals as goal

pub returns-in_err-value : goal.returns-in_err-value
returns-in_err-value c =
    at_exit (λ (n : ℕ). n) (NumberBefore (word_text c.args.behind) c.args.text.now) c.from_residual.result c.in_err-value.field-0.0 c.from_residual.ensures.1
    (first _ _ _ _ (before_tells c.args.behind c.args.text.now) _ c.in_err-value.ensures)

pub returns-in_err-text : goal.returns-in_err-text
returns-in_err-text c =
    at_exit (λ (n : ℕ). n) (NumberBefore (word_text c.args.behind) c.args.text.now) c.from_residual-in_err-text.result c.in_err-text.field-0.0 c.from_residual-in_err-text.ensures.1
    (second _ _ _ _ (before_tells c.args.behind c.args.text.now) c.in_ok-value.value c.in_ok-value.text.now c.in_ok-value.ensures _ c.in_err-text.ensures)

pub returns : goal.returns
returns c =
    both _ _ _ _ (before_tells c.args.behind c.args.text.now) c.in_ok-value.value c.in_ok-value.text.now c.in_ok-value.ensures tt c.in_ok-text.text.now c.in_ok-text.ensures
