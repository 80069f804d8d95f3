use Rattle.definitions.specs.Plans.Checking.{Accesses, Joins}
use Rattle.plan_space.specs.Planned.{space_in}
use Rattle.plan_tree.specs.Certificates.{certificate_of}
use Rattle.cert_check.specs.Comparisons.{comparison_of}
use Rattle.cert_check.proofs.FirstBelow.{rule_holds, rule_fails, first_at, last_rule, first_refused, each_refused}
use Rattle.cert_check.proofs.failing.first_below.Goals as goal

pub returns-in-Some-clause-first : goal.returns-in-Some-clause-first
returns-in-Some-clause-first c =
    let space = space_in c.args.space.now in
    let certificate = certificate_of c.args.certificate.now in
    first_at space certificate Accesses (comparison_of c.in-Some.failing) tt (rule_fails space certificate _ (λ a b d more h. h) Accesses _ _ (comparison_of c.in-Some.failing) c.in-Some.ensures)

pub returns-in-Some-clause-verdict : goal.returns-in-Some-clause-verdict
returns-in-Some-clause-verdict c = λ plan. first_refused (space_in c.args.space.now) (certificate_of c.args.certificate.now) plan (comparison_of c.in-Some.failing) (returns-in-Some-clause-first c)

pub returns-in-Some-compare_joins-clause-first : goal.returns-in-Some-compare_joins-clause-first
returns-in-Some-compare_joins-clause-first c =
    let space = space_in c.args.space.now in
    let certificate = certificate_of c.args.certificate.now in
    let accesses = rule_holds space certificate _ (λ a b d more h. h) Accesses _ _ c.in_default.ensures in
    first_at space certificate Joins (comparison_of c.in-Some-compare_joins.failing) accesses (rule_fails space certificate _ (λ a b d more h. h) Joins _ _ (comparison_of c.in-Some-compare_joins.failing) c.in-Some-compare_joins.ensures)

pub returns-in-Some-compare_joins-clause-verdict : goal.returns-in-Some-compare_joins-clause-verdict
returns-in-Some-compare_joins-clause-verdict c =
    λ plan. first_refused (space_in c.args.space.now) (certificate_of c.args.certificate.now) plan (comparison_of c.in-Some-compare_joins.failing) (returns-in-Some-compare_joins-clause-first c)

pub returns-clause-first : goal.returns-clause-first
returns-clause-first c =
    let space = space_in c.args.space.now in
    let certificate = certificate_of c.args.certificate.now in
    let accesses = rule_holds space certificate _ (λ a b d more h. h) Accesses _ _ c.in_default.ensures in
    let joins = rule_holds space certificate _ (λ a b d more h. h) Joins _ _ c.in_default-compare_joins.ensures in
    last_rule space certificate _ (λ a b d more h. h) _ _ _ (accesses, joins) c.compare_sorts.ensures

pub returns-clause-verdict : goal.returns-clause-verdict
returns-clause-verdict c = each_refused (space_in c.args.space.now) (certificate_of c.args.certificate.now) _ (returns-clause-first c)
