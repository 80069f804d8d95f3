use Rattle.std.proofs.Common.{Bool, sym, ◌∙◌, eq-eqb}
use Rattle.certificate_syntax.specs.Reading.{SortedIn}
use Rattle.certificate_syntax.proofs.Sequences.{refused_told, at_exit}
use Rattle.certificate_syntax.proofs.Plans.{sorted_tells}
use Rattle.certificate_syntax.proofs.plan.is_sorted.Goals as goal

pub returns-in_err-text : goal.returns-in_err-text
returns-in_err-text c =
    at_exit (λ (b : Bool). b) (SortedIn c.args.text.now) c.from_residual.result c.in_err-text.field-0.0 c.from_residual.ensures.1
    (refused_told _ _ _ (sorted_tells c.args.text.now (eq-eqb _ _ (sym c.second_byte.ensures ∙ c.if-second_byte-eq79.true))) _ c.in_err-text.ensures)
