-- What is printed of each block's certificate (own).
use Rattle.std.specs.Prelude.{ℕ, ◌+◌, ◌≡◌, List, [], ◌∷◌, ◌++◌, codes, decimal, ◌==◌, if◌then◌else◌}
use Rattle.definitions.specs.Ended.{Ended, Well, both_ended}
use Rattle.definitions.specs.Ended as ends
use Rattle.definitions.specs.Printing.{line}
use Rattle.definitions.specs.Plans.TableSet.{TableSet}
use Rattle.definitions.specs.Plans.Order.{OrderNumber}
use Rattle.definitions.specs.Plans.Validity.{IsValid}
use Rattle.definitions.specs.Plans.Checking.{Rule, Accesses, Joins, Sorts, Target, Refused, IsVerdict}
use Rattle.definitions.specs.Estimates.Version.{Version}
use Rattle.definitions.specs.Certificates.Text.{number_of_version}
use Rattle.definitions.specs.Certificates.CertifiedBlock.{CertifiedBlock}
use Rattle.definitions.specs.Certificates.Spelling.{SpellsSome}
use Rattle.definitions.specs.Certificates.Fault.{Fault, BadForm, fault_label, HasFault}
use Rattle.definitions.specs.Certificates.File.{own_text, lines_behind, version_of}

-- the verdict on a text: its certificate is valid for its plan; or a rule fails, the first one; or it has a fault
pub data TextVerdict : Type 0 where
  Passes : TextVerdict
  FailsAt : Rule → TextVerdict
  IsFaulty : Fault → TextVerdict

abbrev pub IsTextVerdict : CertifiedBlock → List ℕ → TextVerdict → Type 0
IsTextVerdict block bytes Passes = SpellsSome block bytes (IsValid block.space)
IsTextVerdict block bytes (FailsAt rule) = SpellsSome block bytes (λ plan certificate.
    (tables : TableSet) × (order : OrderNumber) × IsVerdict block.space certificate plan (Refused rule tables order))
IsTextVerdict block bytes (IsFaulty fault) = HasFault block bytes fault

abbrev pub rule_label : Rule → List ℕ
rule_label Accesses = codes "K1"
rule_label Joins = codes "K2"
rule_label Sorts = codes "K3"
rule_label Target = codes "K4"

abbrev pub verdict_text : TextVerdict → List ℕ
verdict_text Passes = codes "pass"
verdict_text (FailsAt rule) = codes "refused " ++ rule_label rule
verdict_text (IsFaulty fault) = codes "refused " ++ fault_label fault

-- a version is named unless it is the current one
abbrev pub space_text : (current version : Version) → List ℕ
space_text current version =
    if number_of_version version == number_of_version current then []
    else codes " space " ++ decimal (number_of_version version)

abbrev pub block_line : (current : Version) → CertifiedBlock → TextVerdict → List ℕ
block_line current block verdict =
    line (codes "block " ++ decimal (block.number + 1) ++ codes " " ++ verdict_text verdict
    ++ space_text current block.version)

-- how a block ended
abbrev pub ended_of : TextVerdict → Ended
ended_of Passes = Well
ended_of _ = ends.Refused

-- what is left of the file behind the last block's text has no form
abbrev pub rest_text : List (List ℕ) → List ℕ
rest_text [] = []
rest_text (next ∷ lines) = line (codes "rest refused " ++ fault_label BadForm)

abbrev pub rest_ended : List (List ℕ) → Ended
rest_ended [] = Well
rest_ended (next ∷ lines) = ends.Refused

-- a line for each block, in the order of their numbers, and one for the rest. Each is a block in every version, and is
-- seen in that of its text
abbrev pub AreTold : (current : Version) → List (Version → CertifiedBlock) → (lines : List (List ℕ)) → (text : List ℕ)
    → Ended → Type 0
AreTold current [] lines text ended = (text ≡ rest_text lines) × (ended ≡ rest_ended lines)
AreTold current (block_in ∷ blocks) lines text ended =
    let block = block_in (version_of current lines) in
    (verdict : TextVerdict) × (rest : List ℕ) × (later : Ended) × IsTextVerdict block (own_text lines) verdict
    × AreTold current blocks (lines_behind lines) rest later
    × (text ≡ block_line current block verdict ++ rest) × (ended ≡ both_ended (ended_of verdict) later)
