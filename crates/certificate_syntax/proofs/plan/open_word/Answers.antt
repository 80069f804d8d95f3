use Rattle.certificate_syntax.specs.declared.plan.Around.{Around}
use Rattle.certificate_syntax.specs.Words.{word_text}
use Rattle.certificate_syntax.specs.Reading.{AroundIn}
use Rattle.certificate_syntax.proofs.Sequences.{refused_told, at_exit}
use Rattle.certificate_syntax.proofs.Plans.{opened_tells}
use Rattle.certificate_syntax.proofs.plan.open_word.Goals as goal

pub returns-in_err-text : goal.returns-in_err-text
returns-in_err-text c =
    at_exit (λ (a : Around). a) (AroundIn c.args.text.now) c.from_residual.result c.in_err-text.field-0.0 c.from_residual.ensures.1
    (refused_told _ _ _ (opened_tells c.args.text.now (word_text c.args.word) c.args.around c.requires.spelled c.requires.first) _ c.in_err-text.ensures)
