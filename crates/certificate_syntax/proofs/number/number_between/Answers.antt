use Rattle.std.proofs.Common.{ℕ}
use Rattle.certificate_syntax.specs.Words.{word_text}
use Rattle.certificate_syntax.specs.Reading.{NumberBetween}
use Rattle.certificate_syntax.proofs.Sequences.{first, last, at_exit}
use Rattle.certificate_syntax.proofs.Digits.{between_tells}
use Rattle.certificate_syntax.proofs.number.number_between.Goals as goal

pub returns-in_err-text : goal.returns-in_err-text
returns-in_err-text c =
    at_exit (λ (n : ℕ). n) (NumberBetween (word_text c.args.before) (word_text c.args.behind) c.args.text.now) c.from_residual.result c.in_err-text.field-0.0 c.from_residual.ensures.1
    (first _ _ _ _ (between_tells (word_text c.args.before) (word_text c.args.behind) c.args.text.now) _ c.in_err-text.ensures)

pub returns : goal.returns
returns c =
    last _ _ _ _ (between_tells (word_text c.args.before) (word_text c.args.behind) c.args.text.now) (λ (n : ℕ). n) tt c.in_ok-text.text.now c.in_ok-text.ensures c.number_before.result c.number_before.ensures
