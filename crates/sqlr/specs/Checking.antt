-- What a checking run of a session does, in the words of the definitions.
use Rattle.std.specs.Prelude.{ℕ, ◌≡◌, ◌≢◌, List, [], ◌∷◌, ◌++◌, Option, Some, None, map}
use Rattle.definitions.specs.Ended as ends
use Rattle.definitions.specs.Statement.{Select, Statement}
use Rattle.definitions.specs.Table.{Database}
use Rattle.definitions.specs.Refusal.{Refusal}
use Rattle.definitions.specs.Printing.{refusal_text}
use Rattle.definitions_execution.specs.Step.{Answering, Failing, State, Step, StepBreaks}
use Rattle.definitions.specs.Binding.Faults.{QueryFaulty, Binds}
use Rattle.definitions.specs.Estimates.Version.{current_version}
use Rattle.definitions.specs.Queries.BoundBlock.{Blocks}
use Rattle.definitions.specs.Certificates.File.{lines_of}
use Rattle.definitions.specs.Certificates.Explaining.{certified_from}
use Rattle.definitions.specs.Certificates.Verdicts.{AreTold}
use Rattle.definitions_execution.specs.CheckingRun.{asked, nothing_text, Prepared, Prepares, Checked, CheckBreaks}
use Rattle.query_tree.specs.Bound.{block_of}
use Rattle.certificate_files.specs.Telling.{check_ended_of}
use Rattle.certificate_files.specs.declared.checking.FileEnded.{FileEnded}
use Rattle.diagnostics.specs.declared.checked_file.CheckedFile.{CheckedFile}
use Rattle.sqlr.specs.declared.checked.Bound.{Bound}
use Rattle.sqlr.specs.declared.checked.Bound.TheVariants as b
use Rattle.sqlr.specs.declared.ended.Ended.{Ended}
use Rattle.sqlr.specs.declared.ended.Ended.TheVariants as e
use Rattle.sqlr.specs.declared.ended.RunFault.{RunFault}
use Rattle.sqlr.specs.declared.ended.RunFault.TheVariants as r
use Rattle.sqlr.specs.declared.outcome.Printed.{Printed}
use Rattle.sqlr.specs.declared.outcome.StepFault.{StepFault}
use Rattle.sqlr.specs.Devices.{Took, TookBeginning, TookUpTo}
use Rattle.sqlr.specs.Sessions.{break_of, ended_of, BreaksAt}

abbrev pub end_of_file : FileEnded → Ended
end_of_file ended = ended_of (check_ended_of ended)

-- certificates are checked against a script's last statement: the sink took all that is printed
abbrev pub Checks : {L : Type 0} → Answering L → State L → List ℕ → List ℕ → State L → Option (List ℕ) → Option (List ℕ)
    → Ended → Type 0
Checks answers old script file new taken taken' ended =
    (text : List ℕ) × (how : ends.Ended) × Checked answers current_version old script file new text how
    × (ended ≡ ended_of how) × Took taken text taken'

-- the check breaks off: the sink took a beginning of what it prints
abbrev pub BreaksChecking : {L : Type 0} → Answering L → Failing L → State L → List ℕ → List ℕ → State L
    → Option (List ℕ) → Option (List ℕ) → RunFault → Type 0
BreaksChecking answers fails old script file new taken taken' fault =
    (begun : List ℕ) × CheckBreaks answers fails current_version old script file (break_of fault) new begun
    × TookUpTo taken [] begun taken'

-- ---- the statements before the last

-- a statement is prepared, or it is refused and prints this
abbrev pub IsPrepared : {L : Type 0} → Answering L → State L → Statement → State L → Option Printed → Type 0
IsPrepared answers old s new None = Prepared answers old s new (asked s)
IsPrepared answers old s new (Some p) = (asked s ≡ None) × Step answers old s new p.text.items ends.Faulted
    × (p.ended ≡ e.Faulted)

-- a statement's text is kept where it is refused
abbrev pub IsIfRefused : Printed → Option Printed → Type 0
IsIfRefused p None = p.ended ≡ e.Well
IsIfRefused p (Some kept) = (kept ≡ p) × (p.ended ≢ e.Well)

-- all are prepared, or one is refused, behind those that are prepared, and prints this
abbrev pub ArePrepared : {L : Type 0} → Answering L → State L → List Statement → State L → Option Printed → Type 0
ArePrepared answers old ss new None = Prepares answers old ss new
ArePrepared {L} answers old ss new (Some p) =
    (front rest : List Statement) × (s : Statement) × (mid : State L) × (ss ≡ front ++ s ∷ rest)
    × Prepares answers old front mid × IsPrepared answers mid s new (Some p)

-- a statement that has no query broke off
abbrev pub BreaksPrepared : {L : Type 0} → Answering L → Failing L → State L → Statement → State L → StepFault → Type 0
BreaksPrepared answers fails old s new fault = (asked s ≡ None) × BreaksAt answers fails old s new fault

-- some are prepared, and the next one broke off
abbrev pub BreaksPreparing : {L : Type 0} → Answering L → Failing L → State L → List Statement → State L → RunFault
    → Type 0
BreaksPreparing {L} answers fails old ss new fault =
    (front rest : List Statement) × (s : Statement) × (mid : State L) × (ss ≡ front ++ s ∷ rest)
    × Prepares answers old front mid × (asked s ≡ None) × StepBreaks answers fails mid s (break_of fault) new

-- ---- the last statement

-- what is printed of certificates for a query
pub data QueryChecked (db : Database) (q : Select) (file text : List ℕ) (how : ends.Ended) : Type 0 where
  refused : (r : Refusal) → QueryFaulty db q r → text ≡ refusal_text r → how ≡ ends.Faulted
      → QueryChecked db q file text how
  told : (blocks : Blocks) → Binds db q blocks
      → AreTold current_version (certified_from db 0 blocks) (lines_of file) text how → QueryChecked db q file text how

-- for a statement, whose query they are for if it has one
abbrev pub LastChecked : Database → Option Select → List ℕ → List ℕ → ends.Ended → Type 0
LastChecked db None file text how = (text ≡ nothing_text) × (how ≡ ends.Faulted)
LastChecked db (Some q) file text how = QueryChecked db q file text how

abbrev pub ChecksLast : Database → Statement → List ℕ → Option (List ℕ) → Option (List ℕ) → Ended → Type 0
ChecksLast db s file taken taken' ended =
    (text : List ℕ) × (how : ends.Ended) × LastChecked db (asked s) file text how × (ended ≡ ended_of how)
    × Took taken text taken'

abbrev pub BreaksLast : Database → Statement → List ℕ → Option (List ℕ) → Option (List ℕ) → RunFault → Type 0
BreaksLast db s file taken taken' (r.Memory offset) = taken' ≡ taken
BreaksLast db s file taken taken' (r.Library offset) = ⊥
BreaksLast db s file taken taken' r.Sink = (text : List ℕ) × (how : ends.Ended) × LastChecked db (asked s) file text how
    × TookBeginning taken text taken'

-- what comes of a query whose certificates are to be checked
abbrev pub IsBound : Database → Select → Bound → Type 0
IsBound db q (b.Refused p) = (p.ended ≡ e.Faulted)
    × ((file : List ℕ) → QueryChecked db q file p.text.items ends.Faulted)
IsBound db q (b.Blocks blocks) = Binds db q (map block_of blocks.items)

-- what comes of its certificates
abbrev pub IsChecked : Database → Select → List ℕ → CheckedFile → Type 0
IsChecked db q file checked =
    Binds db q (map block_of checked.blocks.now)
    × AreTold current_version (certified_from db 0 (map block_of checked.blocks.now)) (lines_of file)
    checked.told.text.items (check_ended_of checked.told.ended)
