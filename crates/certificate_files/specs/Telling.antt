-- What the answers of this crate stand for.
use Rattle.std.specs.Prelude.{◌≡◌, ⊤, Option, Some, None}
use Rattle.definitions.specs.Plans.TableSet.{TableSet}
use Rattle.definitions.specs.Plans.Order.{OrderNumber}
use Rattle.definitions.specs.Plans.Plan as plans
use Rattle.definitions.specs.Plans.PlanSpace.{InSpace}
use Rattle.definitions.specs.Plans.Space.{Space}
use Rattle.definitions.specs.Plans.Certificate.{Certificate}
use Rattle.definitions.specs.Plans.Validity.{IsValid}
use Rattle.definitions.specs.Plans.Checking.{Refused, IsVerdict}
use Rattle.definitions.specs.Certificates.Fault.{Fault, BadForm, NoSuchNumber, BadStates}
use Rattle.definitions.specs.Certificates.Verdicts as spec
use Rattle.definitions.specs.Ended as ends
use Rattle.certificate.specs.declared.fault.TextFault.{TextFault}
use Rattle.certificate.specs.declared.fault.TextFault.TheVariants as fault
use Rattle.cert_check.specs.Verdicts.{rule_of}
use Rattle.plan_tree.specs.Plans.{plan_of}
use Rattle.plan_tree.specs.declared.plan.Plan.{Plan}
use Rattle.certificate_files.specs.declared.checking.FileEnded.{FileEnded}
use Rattle.certificate_files.specs.declared.checking.FileEnded.TheVariants as ended
use Rattle.certificate_files.specs.declared.telling.Told.{Told}
use Rattle.certificate_files.specs.declared.telling.Told.TheVariants as told
use Rattle.certificate_files.specs.declared.telling.Judgement.{Judgement}
use Rattle.certificate_files.specs.declared.telling.Judgement.TheVariants as j
use Rattle.cert_check.specs.declared.kept_comparison.KeptComparison.{KeptComparison}

-- want of memory is none, and is not told
abbrev pub fault_of : TextFault → Fault
fault_of (fault.Form at expected) = BadForm
fault_of (fault.Missing missing) = NoSuchNumber
fault_of (fault.States bad) = BadStates
fault_of fault.Memory = BadForm

abbrev pub told_of : Told → spec.TextVerdict
told_of told.Passes = spec.Passes
told_of (told.Fails rule place) = spec.FailsAt (rule_of rule)
told_of (told.Faulty fault) = spec.IsFaulty (fault_of fault)

abbrev pub judgement_told : Judgement → Told
judgement_told j.Passes = told.Passes
judgement_told (j.Fails rule place failing) = told.Fails rule place

-- the first comparison that fails, if one does
abbrev pub failing_of : Judgement → Option KeptComparison
failing_of j.Passes = None
failing_of (j.Fails rule place failing) = failing

abbrev pub IsOfText : Told → Type 0
IsOfText (told.Faulty fault.Memory) = ⊥
IsOfText told = ⊤

-- the plan that is read stands for one; none stands for any outside the space
abbrev pub StandsFor : Space → plans.Plan → Option Plan → Type 0
StandsFor space plan (Some own) = plan_of own ≡ plan
StandsFor space plan None = InSpace space plan → ⊥

-- what is told of a plan and a certificate of the space
abbrev pub IsToldBy : Space → plans.Plan → Certificate → spec.TextVerdict → Type 0
IsToldBy space plan certificate spec.Passes = IsValid space plan certificate
IsToldBy space plan certificate (spec.FailsAt rule) = (tables : TableSet) × (order : OrderNumber)
    × IsVerdict space certificate plan (Refused rule tables order)
IsToldBy space plan certificate (spec.IsFaulty fault) = ⊥

abbrev pub check_ended_of : FileEnded → ends.Ended
check_ended_of ended.Well = ends.Well
check_ended_of ended.Refused = ends.Refused
