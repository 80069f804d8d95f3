use Rattle.std.proofs.Common.{Bool, ◌∙◌}
use Rattle.plan_tree.specs.Versions.{version_of}
use Rattle.certificate_syntax.specs.Reading.{DirectionIn}
use Rattle.certificate_syntax.proofs.Sequences.{refused_told, at_exit}
use Rattle.certificate_syntax.proofs.Paths.{forward_tells}
use Rattle.certificate_syntax.proofs.path.direction.Goals as goal

pub returns-in_err-text : goal.returns-in_err-text
returns-in_err-text c =
    at_exit (λ (b : Bool). b) (DirectionIn (version_of c.args.version) c.args.text.now) c.from_residual.result c.in_err-text.field-0.0 c.from_residual.ensures.1
    (refused_told _ _ _ (forward_tells (version_of c.args.version) c.args.text.now (λ e. c.if-first_byte-eq32.false (c.first_byte.ensures ∙ e))) _ c.in_err-text.ensures)
