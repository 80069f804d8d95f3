-- What is read of a text.
use Rattle.std.specs.Prelude.{ℕ, ◌<◌, ◌≡◌, ◌⊎◌, ⊤, List, length, Option, Some, None, Bool, All}
use Rattle.definitions.specs.Limits.{most_index_columns}
use Rattle.definitions.specs.Plans.Path as p
use Rattle.definitions.specs.Plans.Plan as spec
use Rattle.definitions.specs.Plans.Certificate as c
use Rattle.definitions.specs.Certificates.CertifiedBlock.{CertifiedBlock}
use Rattle.definitions.specs.Certificates.Text.{Written}
use Rattle.definitions.specs.Certificates.Spelling.{plan_meant, StateIsThere, AreThere, AreBelow, Spells}
use Rattle.definitions.specs.Certificates.Fault.{BadForm, NoSuchNumber, BadStates, HasFault}
use Rattle.plan_tree.specs.Plans.{path_of, inner_of, plan_of}
use Rattle.plan_tree.specs.declared.path.Path.{Path}
use Rattle.plan_tree.specs.declared.plan.Inner.{Inner}
use Rattle.plan_tree.specs.declared.plan.Plan.{Plan}
use Rattle.plan_tree.specs.Certificates.{state_of, certificate_of}
use Rattle.plan_tree.specs.declared.states.State.{State}
use Rattle.plan_tree.specs.declared.states.Certificate.{Certificate}
use Rattle.certificate.specs.declared.fault.TextFault.{TextFault}
use Rattle.certificate.specs.declared.fault.TextFault.TheVariants as f
use Rattle.certificate.specs.declared.reading.Spelled.{Spelled}

-- ---- plans

-- a path that matches an index by more conjuncts than an index may have columns
abbrev pub IsLongMatch : p.Path → Type 0
IsLongMatch (p.SegmentScan table) = ⊥
IsLongMatch (p.IndexScan table index backward) = ⊥
IsLongMatch (p.MatchingScan table index conjuncts backward) = most_index_columns < length conjuncts

-- a plan with such a path
abbrev pub HasLongMatch : spec.Plan → Type 0
HasLongMatch (spec.Access path) = IsLongMatch path
HasLongMatch (spec.Loop outer path) = HasLongMatch outer ⊎ IsLongMatch path
HasLongMatch (spec.Merge outer conjunct inner) = HasLongMatch outer ⊎ IsLongMatch inner.path
HasLongMatch (spec.Sort input order) = HasLongMatch input

abbrev pub PathIsMeant : p.Path → Option Path → Type 0
PathIsMeant path (Some own) = path_of own ≡ path
PathIsMeant path None = IsLongMatch path

abbrev pub InnerIsMeant : p.Path → Bool → Option Inner → Type 0
InnerIsMeant path sorted (Some own) = inner_of own ≡ record { path = path; sorted = sorted }
InnerIsMeant path sorted None = IsLongMatch path

abbrev pub PlanIsMeant : spec.Plan → Option Plan → Type 0
PlanIsMeant plan (Some own) = plan_of own ≡ plan
PlanIsMeant plan None = HasLongMatch plan

-- ---- states

abbrev pub claimed : ℕ → List c.StateCost → c.Certificate
claimed target states = record { target = target; states = states }

-- a state stands behind the one before it, if there is one
abbrev pub Follows : Option State → c.StateCost → Type 0
Follows None state = ⊤
Follows (Some before) state = c.Precedes (state_of before) state

-- ---- what a text says

module _ (block : CertifiedBlock) (said : Written) where
  abbrev pub IsCertificateMeant : Certificate → Type 0
  IsCertificateMeant certificate = AreThere block said × AreBelow said.certificate
      × (certificate_of certificate ≡ said.certificate)

  abbrev pub IsMeant : Spelled → Type 0
  IsMeant spelled = IsCertificateMeant spelled.certificate × PlanIsMeant (plan_meant block said.plan) spelled.plan

  -- what a fault tells of it
  abbrev pub IsLacking : TextFault → Type 0
  IsLacking (f.Form at expected) = ⊥
  IsLacking (f.Missing missing) = AreThere block said → ⊥
  IsLacking (f.States bad) = AreThere block said × (AreBelow said.certificate → ⊥)
  IsLacking f.Memory = Unit {0}

-- what one tells of its states
abbrev pub AreLacking : CertifiedBlock → List c.StateCost → TextFault → Type 0
AreLacking block states (f.Form at expected) = ⊥
AreLacking block states (f.Missing missing) = All (StateIsThere block) states → ⊥
AreLacking block states (f.States bad) = ⊥
AreLacking block states f.Memory = Unit {0}

-- ---- texts

-- the bytes are the spelling of the plan, or where it is none, of one that has too long a match
abbrev pub PlanIsRead : CertifiedBlock → List ℕ → c.Certificate → Option Plan → Type 0
PlanIsRead block bytes certificate (Some plan) = Spells block bytes (plan_of plan) certificate
PlanIsRead block bytes certificate None = (plan : spec.Plan) × Spells block bytes plan certificate × HasLongMatch plan

abbrev pub IsRead : CertifiedBlock → List ℕ → Spelled → Type 0
IsRead block bytes spelled = PlanIsRead block bytes (certificate_of spelled.certificate) spelled.plan

abbrev pub HasTextFault : CertifiedBlock → List ℕ → TextFault → Type 0
HasTextFault block bytes (f.Form at expected) = HasFault block bytes BadForm
HasTextFault block bytes (f.Missing missing) = HasFault block bytes NoSuchNumber
HasTextFault block bytes (f.States bad) = HasFault block bytes BadStates
HasTextFault block bytes f.Memory = Unit {0}
