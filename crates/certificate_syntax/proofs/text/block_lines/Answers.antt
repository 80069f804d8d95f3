use Rattle.std.proofs.Common.{ℕ}
use Rattle.plan_tree.specs.Versions.{version_of}
use Rattle.certificate_syntax.specs.Reading.{BlockIn}
use Rattle.certificate_syntax.proofs.Sequences.{first, last, at_exit}
use Rattle.certificate_syntax.proofs.Lines.{block_tells}
use Rattle.certificate_syntax.proofs.text.block_lines.Goals as goal

pub returns-in_err-text : goal.returns-in_err-text
returns-in_err-text c =
    at_exit (λ (n : ℕ). n) (BlockIn (version_of c.args.version) c.args.text.now) c.from_residual.result c.in_err-text.field-0.0 c.from_residual.ensures.1
    (first _ _ _ _ (block_tells (version_of c.args.version) c.args.text.now) _ c.in_err-text.ensures)

pub returns : goal.returns
returns c =
    last _ _ _ _ (block_tells (version_of c.args.version) c.args.text.now) (λ (n : ℕ). n) tt c.in_ok-text.text.now c.in_ok-text.ensures c.number_between.result c.number_between.ensures
