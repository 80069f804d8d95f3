-- Whole texts.
use Rattle.std.proofs.Common.{◌≡◌, ◌∙◌, ℕ, ◌+◌, List, [], ◌++◌, sym, ap, append_assoc, flat_map}
use Rattle.std.specs.Prelude.{codes, decimal}
use Rattle.definitions.specs.Printing.{line}
use Rattle.definitions.specs.Plans.Plan.{Plan}
use Rattle.definitions.specs.Plans.Certificate.{Certificate}
use Rattle.definitions.specs.Certificates.CertifiedBlock as c
use Rattle.definitions.specs.Certificates.Text.{number_of_version}
use Rattle.definitions.specs.Certificates.Text.{plan_text, state_line, end_line}
use Rattle.definitions.specs.Certificates.Writing.{plan_written, text_written}
use Rattle.certificate.specs.Blocks.{IsOf, block_in}
use Rattle.plan_tree.specs.Versions.{version_of}
use Rattle.certificate.specs.Lines.{lines_of}
use Rattle.certificate.specs.declared.certified.CertifiedBlock.{CertifiedBlock}
use Rattle.certificate.proofs.Same.{plan_same}

joined : (a b c d e f : List ℕ) → (a ++ b) ++ (((c ++ d) ++ e) ++ f) ≡ ((((a ++ b) ++ c) ++ d) ++ e) ++ f
joined a b c d e f = simp append_assoc

-- a text by its numbers
abbrev made : ℕ → ℕ → Plan → Certificate → List ℕ
made version number plan certificate =
    line (codes "CERTIFICATE " ++ decimal version) ++ line (codes "BLOCK " ++ decimal number) ++ line (codes "PLAN " ++ plan_text plan)
    ++ line (codes "TARGET " ++ decimal certificate.target) ++ flat_map state_line certificate.states ++ end_line

pub is_spelling : (of : c.CertifiedBlock) (s : CertifiedBlock) (plan : Plan) (certificate : Certificate) (empty first second text : List ℕ) (version number : ℕ) → IsOf of s
    → version ≡ number_of_version (version_of s.version) → number ≡ s.number + 1
    → empty ≡ [] → first ≡ empty ++ line (codes "CERTIFICATE " ++ decimal version) → second ≡ first ++ line (codes "BLOCK " ++ decimal number)
    → text ≡ second ++ lines_of (plan_written (block_in s) plan) certificate
    → text ≡ text_written of plan certificate
is_spelling of s plan certificate empty first second text version number is named counted e0 e1 e2 e3 =
    let own : Plan = plan_written (block_in s) plan in
    let l1 : List ℕ = line (codes "CERTIFICATE " ++ decimal version) in
    let l2 : List ℕ = line (codes "BLOCK " ++ decimal number) in
    let at : number ≡ of.number + 1 = counted ∙ ap (λ (n : ℕ). n + 1) (sym is.number) in
    let two : second ≡ l1 ++ l2 = e2 ∙ ap (λ (l : List ℕ). l ++ l2) (e1 ∙ ap (λ (l : List ℕ). l ++ l1) e0) in
    e3
    ∙ ap (λ (l : List ℕ). l ++ lines_of own certificate) two
    ∙ joined l1 l2 (line (codes "PLAN " ++ plan_text own)) (line (codes "TARGET " ++ decimal certificate.target)) (flat_map state_line certificate.states) end_line
    ∙ ap (λ (v : ℕ). made v number own certificate) (named ∙ ap number_of_version (sym is.version))
    ∙ ap (λ (n : ℕ). made (number_of_version of.version) n own certificate) at
    ∙ ap (λ (p : Plan). made (number_of_version of.version) (of.number + 1) p certificate) (sym (plan_same of s is plan))
