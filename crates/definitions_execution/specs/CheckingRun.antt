-- What a checking run does: of a script and a file of certificates for the blocks of its last statement (own).
use Rattle.std.specs.Prelude.{◌≡◌, ◌≢◌, List, ℕ, [], ◌∷◌, ◌++◌, Option, Some, None, codes}
use Rattle.definitions.specs.Ended.{Ended, Faulted}
use Rattle.definitions.specs.Ended as ends
use Rattle.definitions.specs.Printing.{line, refusal_text}
use Rattle.definitions.specs.Statement.{Select, Statement, Query, Explain}
use Rattle.definitions.specs.Refusal.{Refusal}
use Rattle.definitions.specs.Binding.Faults as binding
use Rattle.definitions.specs.Queries.BoundBlock.{Blocks}
use Rattle.definitions_execution.specs.Step.{Answering, Failing, State, Step, FaultLine, AreStatements, Break, NoMemory}
use Rattle.definitions_execution.specs.Step.{SinkFailed, StepBreaks}
use Rattle.definitions.specs.Estimates.Version.{Version}
use Rattle.definitions.specs.Certificates.File.{lines_of}
use Rattle.definitions.specs.Certificates.Explaining.{certified_from}
use Rattle.definitions.specs.Certificates.Verdicts.{AreTold}

-- the query of a SELECT or of an EXPLAIN, whose blocks can be checked
abbrev pub asked : Statement → Option Select
asked (Query q) = Some q
asked (Explain q) = Some q
asked _ = None

abbrev pub nothing_text : List ℕ
nothing_text = line (codes "nothing to check")

-- a statement before the last: a query is passed over; any other is not refused, and what it prints is dropped
abbrev pub Prepared : {L : Type 0} → Answering L → State L → Statement → State L → Option Select → Type 0
Prepared answers old s new (Some q) = new ≡ old
Prepared answers old s new None = (text : List ℕ) × Step answers old s new text ends.Well

abbrev pub Prepares : {L : Type 0} → Answering L → State L → List Statement → State L → Type 0
Prepares answers old [] new = new ≡ old
Prepares {L} answers old (s ∷ ss) new =
    (mid : State L) × Prepared answers old s mid (asked s) × Prepares answers mid ss new

-- a fault of the script's text; a statement before the last that is refused; nothing to check; a query that is refused;
-- or what is told of the certificates of the query's blocks
pub data Checked {L : Type 0} (answers : Answering L) (current : Version) (old : State L) (script file : List ℕ)
    (new : State L) (text : List ℕ) (ended : Ended) : Type 0 where
  fault : FaultLine script text → new ≡ old → ended ≡ Faulted → Checked answers current old script file new text ended
  refused : (front rest : List Statement) (s : Statement) (mid : State L) → AreStatements script (front ++ s ∷ rest)
      → rest ≢ []
      → Prepares answers old front mid → asked s ≡ None → Step answers mid s new text ends.Faulted
      → ended ≡ Faulted → Checked answers current old script file new text ended
  no_statement : AreStatements script [] → new ≡ old → text ≡ nothing_text → ended ≡ Faulted
      → Checked answers current old script file new text ended
  no_query : (front : List Statement) (s : Statement) → AreStatements script (front ++ s ∷ [])
      → Prepares answers old front new → asked s ≡ None
      → text ≡ nothing_text → ended ≡ Faulted → Checked answers current old script file new text ended
  unbound : (front : List Statement) (s : Statement) (q : Select) (r : Refusal)
      → AreStatements script (front ++ s ∷ []) → Prepares answers old front new → asked s ≡ Some q
      → binding.QueryFaulty new.database q r → text ≡ refusal_text r → ended ≡ Faulted
      → Checked answers current old script file new text ended
  told : (front : List Statement) (s : Statement) (q : Select) (blocks : Blocks)
      → AreStatements script (front ++ s ∷ []) → Prepares answers old front new → asked s ≡ Some q
      → binding.Binds new.database q blocks
      → AreTold current (certified_from new.database 0 blocks) (lines_of file) text ended
      → Checked answers current old script file new text ended

-- why a checking run breaks off is why a run does. Nothing is printed before its end: where the text isn't read, where
-- a statement before the last breaks off, or where memory is wanting for the checks, nothing is printed; where the sink
-- failed, a beginning of the run's text was printed
pub data CheckBreaks {L : Type 0} (answers : Answering L) (fails : Failing L) (current : Version) (old : State L)
    (script file : List ℕ) (break : Break) (new : State L) (begun : List ℕ) : Type 0 where
  unread : break ≡ NoMemory → new ≡ old → begun ≡ [] → CheckBreaks answers fails current old script file break new begun
  unprepared : (front rest : List Statement) (s : Statement) (mid : State L) → AreStatements script (front ++ s ∷ rest)
      → rest ≢ [] → Prepares answers old front mid → asked s ≡ None
      → StepBreaks answers fails mid s break new → begun ≡ []
      → CheckBreaks answers fails current old script file break new begun
  unchecked : (front : List Statement) (s : Statement) → AreStatements script (front ++ s ∷ [])
      → Prepares answers old front new
      → break ≡ NoMemory → begun ≡ [] → CheckBreaks answers fails current old script file break new begun
  unprinted : (ended : Ended) → break ≡ SinkFailed → Checked answers current old script file new begun ended
      → CheckBreaks answers fails current old script file break new begun
