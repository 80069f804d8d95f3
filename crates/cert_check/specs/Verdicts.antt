-- What the verdicts of this crate stand for.
use Rattle.std.specs.Prelude.{Option, Some, None}
use Rattle.definitions.specs.Plans.Checking as plans
use Rattle.plan_tree.specs.Sets.{set_of}
use Rattle.cert_check.specs.Compared.{Compared, refused_by}
use Rattle.cert_check.specs.Comparisons.{comparison_of}
use Rattle.cert_check.specs.declared.verdict.Rule.{Rule}
use Rattle.cert_check.specs.declared.verdict.Rule.TheVariants as rule
use Rattle.cert_check.specs.declared.verdict.Verdict.{Verdict}
use Rattle.cert_check.specs.declared.verdict.Verdict.TheVariants as v

abbrev pub rule_of : Rule → plans.Rule
rule_of rule.Accesses = plans.Accesses
rule_of rule.Joins = plans.Joins
rule_of rule.Sorts = plans.Sorts
rule_of rule.Target = plans.Target

abbrev pub verdict_of : Verdict → plans.Verdict
verdict_of v.Pass = plans.Pass
verdict_of (v.Below comparison) = refused_by (comparison_of comparison)
verdict_of (v.Unmet place) = plans.Refused plans.Target (set_of place.tables) place.order

-- the comparison that it tells, if one fails
abbrev pub below_of : Verdict → Option Compared
below_of v.Pass = None
below_of (v.Below comparison) = Some (comparison_of comparison)
below_of (v.Unmet place) = None
