use Rattle.std.proofs.Common.{◌∙◌, ◌+◌, ℕ, ap}
use Rattle.plan_tree.specs.Plans.{plan_of}
use Rattle.plan_tree.specs.Certificates.{certificate_of}
use Rattle.certificate.proofs.Wholes.{is_spelling}
use Rattle.certificate.proofs.writing.write_text.Goals as goal

pub returns : goal.returns
returns c = λ of is.
    is_spelling of c.args.block.now (plan_of c.args.plan.now) (certificate_of c.args.certificate.now)
    c.new-text.result.items c.write_line.new.text.items c.write_line-2.new.text.items c.write_lines.new.text.items c.from-version.result (c.from-number.result + 1)
    is (c.from-version.ensures ∙ c.version_number.ensures) (ap (λ (n : ℕ). n + 1) c.from-number.ensures) c.new-text.ensures.items c.in_ok-write_line.ensures c.in_ok-write_line-2.ensures c.in_ok-write_lines.ensures
