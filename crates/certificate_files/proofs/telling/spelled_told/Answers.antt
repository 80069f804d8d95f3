use Rattle.std.proofs.Common.{sym, subst, Some}
use Rattle.definitions.specs.Plans.Checking as plans
use Rattle.definitions.specs.Plans.Checking.{IsVerdict}
use Rattle.plan_tree.specs.Certificates.{certificate_of}
use Rattle.plan_tree.specs.Sets.{set_of}
use Rattle.certificate.specs.Planned.{space_in}
use Rattle.cert_check.specs.Compared.{told_tables, told_order, Compared, IsFirstBelow}
use Rattle.cert_check.specs.Comparisons.{comparison_of}
use Rattle.certificate_files.proofs.telling.spelled_told.Goals as goal

pub returns-in_ok-new-in-Below-clause-told : goal.returns-in_ok-new-in-Below-clause-told
returns-in_ok-new-in-Below-clause-told c = λ plan stands.
    let compared = comparison_of c.in-Below.failing in
    let tables = told_tables compared in
    let order = told_order compared in (
      tables,
      order,
      subst (λ (r : plans.Rule). IsVerdict (space_in c.args.space.now) (certificate_of c.args.spelled.now.certificate) plan (plans.Refused r tables order)) (sym c.rule.ensures) (c.in-Below.ensures.verdict plan stands),
    )

pub returns-in-Unmet-clause-told : goal.returns-in-Unmet-clause-told
returns-in-Unmet-clause-told c = λ plan stands. (set_of c.in-Unmet.place.tables, c.in-Unmet.place.order, c.in-Unmet.ensures.verdict plan stands)

pub returns-in_ok-new-in-Below-clause-first : goal.returns-in_ok-new-in-Below-clause-first
returns-in_ok-new-in-Below-clause-first c =
    subst (λ (x : Compared). IsFirstBelow (space_in c.args.space.now) (certificate_of c.args.spelled.now.certificate) (Some x)) (sym c.in_ok-new-in-Below.ensures) c.in-Below.ensures.first

pub returns-in-Unmet-clause-first : goal.returns-in-Unmet-clause-first
returns-in-Unmet-clause-first c = c.in-Unmet.ensures.first

pub returns-in-Pass-clause-first : goal.returns-in-Pass-clause-first
returns-in-Pass-clause-first c = c.in-Pass.ensures.first
