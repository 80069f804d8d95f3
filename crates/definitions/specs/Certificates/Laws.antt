-- What holds of certificates' texts and of checking runs, each proved as the contract of a function that has no code.
use Rattle.std.specs.Prelude.{ℕ, ◌<◌, length, take, ◌≡◌, ◌⊎◌, List, [], ◌∷◌, ◌++◌, flat_map}
use Rattle.definitions.specs.Ended.{Ended, Well}
use Rattle.definitions.specs.Table.{Database}
use Rattle.definitions.specs.Queries.BoundBlock.{Blocks}
use Rattle.definitions.specs.Plans.Plan.{Plan}
use Rattle.definitions.specs.Plans.Certificate.{Certificate, IsCertificate}
use Rattle.definitions.specs.Plans.Least.{IsLeast}
use Rattle.definitions.specs.Estimates.Version.{Version}
use Rattle.definitions.specs.Certificates.CertifiedBlock.{CertifiedBlock}
use Rattle.definitions.specs.Certificates.Explaining.{certified_from, AreExplained}
use Rattle.definitions.specs.Certificates.Text.{Written}
use Rattle.definitions.specs.Certificates.Form.{Says}
use Rattle.definitions.specs.Certificates.Spelling.{Spells, SpellsSome}
use Rattle.definitions.specs.Certificates.Writing.{IsSpellable, text_written}
use Rattle.definitions.specs.Certificates.Fault.{Fault, BadForm, HasFault}
use Rattle.definitions.specs.Certificates.File.{lines_of, own_text, lines_behind, version_of}
use Rattle.definitions.specs.Certificates.Verdicts.{TextVerdict, Passes, IsTextVerdict, AreTold}

-- bytes say one thing at most
abbrev pub SaysOneThing : Type 0
SaysOneThing =
    (version : Version) (bytes : List ℕ) (a b : Written) → Says version bytes a → Says version bytes b → a ≡ b

-- they are the text_written of one plan and certificate at most
abbrev pub SpellsOnce : Type 0
SpellsOnce = (block : CertifiedBlock) (bytes : List ℕ) (p q : Plan) (c d : Certificate)
    → Spells block bytes p c → Spells block bytes q d → (p ≡ q) × (c ≡ d)

-- that plan and certificate can be spelled, and the bytes are their text_written
abbrev pub SpelledIsWritten : Type 0
SpelledIsWritten = (block : CertifiedBlock) (bytes : List ℕ) (plan : Plan) (certificate : Certificate)
    → Spells block bytes plan certificate
    → IsSpellable block plan certificate × (bytes ≡ text_written block plan certificate)

-- and back: what can be spelled is spelled by that
abbrev pub WrittenIsSpelled : Type 0
WrittenIsSpelled = (block : CertifiedBlock) (plan : Plan) (certificate : Certificate)
    → IsSpellable block plan certificate → Spells block (text_written block plan certificate) plan certificate

-- so there is one text_written at most
abbrev pub HasOneSpelling : Type 0
HasOneSpelling = (block : CertifiedBlock) (a b : List ℕ) (plan : Plan) (certificate : Certificate)
    → Spells block a plan certificate → Spells block b plan certificate → a ≡ b

-- what they spell is a certificate of the block
abbrev pub SpelledIsCertificate : Type 0
SpelledIsCertificate = (block : CertifiedBlock) (bytes : List ℕ) (plan : Plan) (certificate : Certificate)
    → Spells block bytes plan certificate → IsCertificate block.space certificate

abbrev pub IsSpelling : CertifiedBlock → List ℕ → Type 0
IsSpelling block bytes = (plan : Plan) × (certificate : Certificate) × Spells block bytes plan certificate

-- any bytes are a text_written or have a fault
abbrev pub SpelledOrFaulty : Type 0
SpelledOrFaulty = (block : CertifiedBlock) (bytes : List ℕ)
    → IsSpelling block bytes ⊎ ((fault : Fault) × HasFault block bytes fault)

-- not both
abbrev pub SpelledIsFaultless : Type 0
SpelledIsFaultless = (block : CertifiedBlock) (bytes : List ℕ) (fault : Fault)
    → IsSpelling block bytes → HasFault block bytes fault → ⊥

-- nor two faults
abbrev pub HasOneFault : Type 0
HasOneFault = (block : CertifiedBlock) (bytes : List ℕ) (a b : Fault)
    → HasFault block bytes a → HasFault block bytes b → a ≡ b

-- of a block's text no two things are told
abbrev pub ToldOnce : Type 0
ToldOnce = (block : CertifiedBlock) (bytes : List ℕ) (a b : TextVerdict)
    → IsTextVerdict block bytes a → IsTextVerdict block bytes b → a ≡ b

-- and where it passes its plan is least
abbrev pub PassedIsLeast : Type 0
PassedIsLeast = (block : CertifiedBlock) (bytes : List ℕ) → IsTextVerdict block bytes Passes
    → SpellsSome block bytes (λ plan certificate. IsLeast block.space plan)

-- where a checking run of a file ends well, each block's text is that of a least plan, and nothing is left
abbrev pub AreLeast : (current : Version) → List (Version → CertifiedBlock) → (lines : List (List ℕ)) → Type 0
AreLeast current [] lines = lines ≡ []
AreLeast current (block_in ∷ blocks) lines =
    let block = block_in (version_of current lines) in
    SpellsSome block (own_text lines) (λ plan certificate. IsLeast block.space plan)
    × AreLeast current blocks (lines_behind lines)

abbrev pub WellIsLeast : Type 0
WellIsLeast = (current : Version) (blocks : List (Version → CertifiedBlock)) (lines : List (List ℕ)) (text : List ℕ)
    → AreTold current blocks lines text Well → AreLeast current blocks lines

-- of a file one text is printed
abbrev pub FileToldOnce : Type 0
FileToldOnce =
    (current : Version) (blocks : List (Version → CertifiedBlock)) (lines : List (List ℕ))
    (a b : List ℕ) (e f : Ended)
    → AreTold current blocks lines a e → AreTold current blocks lines b f → (a ≡ b) × (e ≡ f)

-- and so does a checking run of what EXPLAIN prints, whatever the blocks
abbrev pub ExplainedPasses : Type 0
ExplainedPasses =
    (current : Version) (db : Database) (number : ℕ) (blocks : Blocks) (text printed : List ℕ) (ended : Ended)
    → AreExplained current (certified_from db number blocks) text
    → AreTold current (certified_from db number blocks) (lines_of text) printed ended → ended ≡ Well

-- a file's lines are the file, and cutting a block's text off loses none
abbrev pub LinesAreFile : Type 0
LinesAreFile = (file : List ℕ) → flat_map (λ line. line) (lines_of file) ≡ file

abbrev pub CutLosesNothing : Type 0
CutLosesNothing = (lines : List (List ℕ))
    → own_text lines ++ flat_map (λ line. line) (lines_behind lines) ≡ flat_map (λ line. line) lines

-- a text in front of others is cut off as it is
abbrev pub TextIsCutOff : Type 0
TextIsCutOff = (version : Version) (bytes rest : List ℕ) (said : Written) → Says version bytes said
    → (own_text (lines_of (bytes ++ rest)) ≡ bytes) × (lines_behind (lines_of (bytes ++ rest)) ≡ lines_of rest)

-- a text that breaks off has no form, even before its last byte
abbrev pub BrokenHasNoForm : Type 0
BrokenHasNoForm = (block : CertifiedBlock) (bytes : List ℕ) (said : Written) → Says block.version bytes said
    → (n : ℕ) → n < length bytes → HasFault block (take n bytes) BadForm
