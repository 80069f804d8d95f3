-- What can be wrong with a certificate's text (own): the first fault that it has.
use Rattle.std.specs.Prelude.{List, ℕ, codes}
use Rattle.definitions.specs.Certificates.CertifiedBlock.{CertifiedBlock}
use Rattle.definitions.specs.Certificates.Text.{Written}
use Rattle.definitions.specs.Certificates.Form.{Says}
use Rattle.definitions.specs.Certificates.Spelling.{AreThere, AreBelow}

-- the bytes are no certificate; one of its numbers isn't there; its states don't rise, or one of them isn't below the
-- target
pub data Fault : Type 0 where
  BadForm NoSuchNumber BadStates : Fault

-- the label that is printed
abbrev pub fault_label : Fault → List ℕ
fault_label BadForm = codes "C1"
fault_label NoSuchNumber = codes "C2"
fault_label BadStates = codes "C3"

abbrev pub HasFault : CertifiedBlock → List ℕ → Fault → Type 0
HasFault block bytes BadForm = (said : Written) → Says block.version bytes said → ⊥
HasFault block bytes NoSuchNumber = (said : Written) × Says block.version bytes said × (AreThere block said → ⊥)
HasFault block bytes BadStates =
    (said : Written) × Says block.version bytes said × AreThere block said × (AreBelow said.certificate → ⊥)
