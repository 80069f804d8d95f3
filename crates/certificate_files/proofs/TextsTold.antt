-- What is told of a block's text, by what is read of it.
use Rattle.std.proofs.Common.{◌≡◌, refl, sym, subst, ℕ, List, Option, Some, None, length, ◌≤◌}
use Rattle.definitions.specs.Limits.{most_from_tables}
use Rattle.definitions.specs.Table.{Database}
use Rattle.definitions.specs.Invariant.{IsDatabase}
use Rattle.definitions.specs.Queries.BoundBlock.{Block}
use Rattle.definitions.specs.Binding.Formed.{IsFormedSomewhere}
use Rattle.definitions.specs.Plans.Plan as spec
use Rattle.definitions.specs.Plans.Space.{Space}
use Rattle.definitions.specs.Plans.PlanSpace.{InSpace}
use Rattle.definitions.specs.Plans.Certificate as k
use Rattle.definitions.specs.Estimates.Version.{Version}
use Rattle.definitions.specs.Certificates.CertifiedBlock.{CertifiedBlock}
use Rattle.definitions.specs.Certificates.Explaining.{certified}
use Rattle.definitions.specs.Certificates.Spelling.{Spells}
use Rattle.definitions.specs.Certificates.Verdicts.{TextVerdict, Passes, FailsAt, IsFaulty, IsTextVerdict}
use Rattle.definitions.proofs.CertificateTheory.Faults.{spelled_certificate}
use Rattle.plan_tree.specs.Plans.{plan_of}
use Rattle.plan_tree.specs.declared.plan.Plan.{Plan}
use Rattle.certificate.specs.Reads.{PlanIsRead}
use Rattle.certificate_files.specs.Telling.{StandsFor, IsToldBy}
use Rattle.certificate_files.proofs.LongMatches.{no_long_plan}

module _ (db : Database) (number : ℕ) (block : Block) (version : Version) (space : Space) (same : (certified db number block version).space ≡ space) (bytes : List ℕ) (certificate : k.Certificate) where
  abbrev own : CertifiedBlock
  own = certified db number block version

  pub is_certificate : (plan : Option Plan) → PlanIsRead own bytes certificate plan → k.IsCertificate space certificate
  is_certificate (Some plan) spells = subst (λ (s : Space). k.IsCertificate s certificate) same (spelled_certificate own bytes (plan_of plan) certificate spells)
  is_certificate None (plan, spells, long) = subst (λ (s : Space). k.IsCertificate s certificate) same (spelled_certificate own bytes plan certificate spells)

  -- what is read stands for what is spelled
  plan_stands : IsDatabase db → (plan : Option Plan) → PlanIsRead own bytes certificate plan → (p : spec.Plan) × Spells own bytes p certificate × StandsFor space p plan
  plan_stands valid (Some plan) spells = (plan_of plan, spells, refl)
  plan_stands valid None (plan, spells, long) =
      (plan, spells, subst (λ (s : Space). InSpace s plan → ⊥) same (λ inside. no_long_plan db block valid version plan inside.0 long))

  told_is : (p : spec.Plan) → Spells own bytes p certificate → (told : TextVerdict) → IsToldBy own.space p certificate told → IsTextVerdict own bytes told
  told_is p spells Passes valid = (p, certificate, spells, valid)
  told_is p spells (FailsAt rule) fails = (p, certificate, spells, fails)
  told_is p spells (IsFaulty fault) h = absurd h

  pub told_of_read : IsDatabase db → (plan : Option Plan) → PlanIsRead own bytes certificate plan → (told : TextVerdict)
      → ((p : spec.Plan) → StandsFor space p plan → IsToldBy space p certificate told) → IsTextVerdict own bytes told
  told_of_read valid plan read told all =
      let (p, spells, stands) = plan_stands valid plan read in
      told_is p spells told (subst (λ (s : Space). IsToldBy s p certificate told) (sym same) (all p stands))

pub few_tables : (db : Database) (block : Block) (count : ℕ) → IsFormedSomewhere db block → length block.tables ≡ count → count ≤ most_from_tables
few_tables db block count formed is = rw is at formed.3.count
