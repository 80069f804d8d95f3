-- Whole texts, read.
use Rattle.std.proofs.Common.{refl, sym, subst, List, ℕ, Option, Some, None}
use Rattle.definitions.specs.Plans.Plan as spec
use Rattle.definitions.specs.Plans.Certificate as k
use Rattle.definitions.specs.Certificates.CertifiedBlock as c
use Rattle.definitions.specs.Certificates.Text.{Written}
use Rattle.definitions.specs.Certificates.Spelling.{plan_meant, AreBelow, AreThere, Spells}
use Rattle.definitions.specs.Certificates.Form.{Says}
use Rattle.plan_tree.specs.declared.plan.Plan.{Plan}
use Rattle.plan_tree.specs.Versions.{version_of}
use Rattle.certificate.specs.Blocks.{IsOf, block_in}
use Rattle.certificate.specs.Reads.{PlanIsMeant, IsMeant, IsLacking, PlanIsRead, IsRead, HasTextFault}
use Rattle.certificate.specs.declared.certified.CertifiedBlock.{CertifiedBlock}
use Rattle.certificate.specs.declared.reading.Spelled.{Spelled}
use Rattle.certificate.specs.declared.fault.TextFault.{TextFault}
use Rattle.certificate.specs.declared.fault.TextFault.TheVariants as f
use Rattle.certificate.proofs.Alike.{alike_back, alike_in, plan_meant_alike, there_alike}

module _ (of : c.CertifiedBlock) (s : CertifiedBlock) (is : IsOf of s) (bytes : List ℕ) (said : Written) (says : Says (version_of s.version) bytes said) where
  says_of : Says of.version bytes said
  says_of = subst (λ v. Says v bytes said) (sym is.version) says

  there_of : AreThere (block_in s) said → AreThere of said
  there_of h = there_alike (block_in s) of (alike_back of (block_in s) (alike_in of s is)) said h

  there_in : AreThere of said → AreThere (block_in s) said
  there_in h = there_alike of (block_in s) (alike_in of s is) said h

  spells_meant : AreThere (block_in s) said → AreBelow said.certificate → Spells of bytes (plan_meant (block_in s) said.plan) said.certificate
  spells_meant there below =
      subst (λ (p : spec.Plan). Spells of bytes p said.certificate) (plan_meant_alike of (block_in s) (alike_in of s is) said.plan)
      (record { said = said; says = says_of; there = there_of there; meant = refl; as_written = refl; below = below })

  plan_read : (plan : Option Plan) → PlanIsMeant (plan_meant (block_in s) said.plan) plan
      → Spells of bytes (plan_meant (block_in s) said.plan) said.certificate → PlanIsRead of bytes said.certificate plan
  plan_read (Some plan) e h = subst (λ (p : spec.Plan). Spells of bytes p said.certificate) (sym e) h
  plan_read None long h = (plan_meant (block_in s) said.plan, h, long)

  pub is_read : (spelled : Spelled) → IsMeant (block_in s) said spelled → IsRead of bytes spelled
  is_read own meant =
      subst (λ (k : k.Certificate). PlanIsRead of bytes k own.plan) (sym meant.0.2) (plan_read own.plan meant.1 (spells_meant meant.0.0 meant.0.1))

  pub is_faulty : (fault : TextFault) → IsLacking (block_in s) said fault → HasTextFault of bytes fault
  is_faulty (f.Form at expected) h = absurd h
  is_faulty (f.Missing missing) h = (said, says_of, λ there. h (there_in there))
  is_faulty (f.States bad) h = (said, says_of, there_of h.0, h.1)
  is_faulty f.Memory h = tt
