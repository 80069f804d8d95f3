use Rattle.std.proofs.Common.{Bool, sym}
use Rattle.plan_tree.specs.Versions.{version_of}
use Rattle.certificate_syntax.specs.Reading.{DirectionIn}
use Rattle.certificate_syntax.proofs.Sequences.{first, second, at_exit}
use Rattle.certificate_syntax.proofs.Paths.{backward_tells}
use Rattle.certificate_syntax.proofs.path.backward.Goals as goal

pub returns-in_err-behind : goal.returns-in_err-behind
returns-in_err-behind c =
    at_exit (λ (b : Bool). b) (DirectionIn (version_of c.args.version) c.args.text.now) c.from_residual.result c.in_err-behind.field-0.0 c.from_residual.ensures.1
    (first _ _ _ _ (backward_tells (version_of c.args.version) c.args.text.now (sym c.if-not-reads_backward.ensures) c.requires) _ c.in_err-behind.ensures)

pub returns-in_err-rest : goal.returns-in_err-rest
returns-in_err-rest c =
    at_exit (λ (b : Bool). b) (DirectionIn (version_of c.args.version) c.args.text.now) c.from_residual-in_err-rest.result c.in_err-rest.field-0.0 c.from_residual-in_err-rest.ensures.1
    (second _ _ _ _ (backward_tells (version_of c.args.version) c.args.text.now (sym c.if-not-reads_backward.ensures) c.requires) tt c.in_ok-behind.behind.now c.in_ok-behind.ensures _ c.in_err-rest.ensures)
