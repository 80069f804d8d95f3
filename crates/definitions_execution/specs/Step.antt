-- What a statement does, and what a script does.
use Rattle.std.specs.Prelude.{ℕ, ◌+◌, ◌≡◌, ◌≢◌, ◌≤◌, List, [], ◌∷◌, ◌++◌, Option, Some, None, length}
use Rattle.definitions.specs.Ended.{Ended, Well, Faulted, both_ended}
use Rattle.definitions.specs.Limits.{most_rows}
use Rattle.definitions.specs.Statement.{Name, Select, Statement, Load, Query, Explain}
use Rattle.definitions.specs.Table.{Row, Table, Database, table_named}
use Rattle.definitions.specs.Change.{with_rows, changed, Makes, RepeatsKeys}
use Rattle.definitions.specs.Refusal.{Refusal, NoFile, OverLimit, NullOrRepeated}
use Rattle.definitions.specs.Faults.{Faulty, IsAccepted}
use Rattle.definitions.specs.Binding.Faults.{Binds}
use Rattle.definitions.specs.Plans.Plan.{Plan}
use Rattle.definitions.specs.Queries.BoundBlock.{Blocks}
use Rattle.definitions.specs.Queries.Outcomes.{Told, Rows, Exception, AllowedOf, names_of, shown}
use Rattle.definitions.specs.Estimates.Version.{current_version}
use Rattle.definitions.specs.Certificates.Explaining.{certified_from, AreExplained}
use Rattle.definitions.specs.Loading.{Record, AreFileRecords, AllLoad, FirstFaulty, FillsUp}
use Rattle.definitions.specs.Printing.{done_text, loaded_text, refusal_text, record_refusal_text, fault_text}
use Rattle.definitions.specs.Token.{Token}
use Rattle.definitions.specs.Lexing.{LexFault, Lexes, LexFails}
use Rattle.definitions.specs.Grammar.{Derives, SyntaxFails, kinds}
use Rattle.definitions_execution.specs.Total.{AreCertified, total_of}

-- what a library may answer: the library before, a name, no file or its bytes, and the library after
abbrev pub Answering : Type 0 → Type 1
Answering L = L → List ℕ → Option (List ℕ) → L → Type 0

-- what a library may become where a request fails: the library before, the name, and the library after
abbrev pub Failing : Type 0 → Type 1
Failing L = L → List ℕ → L → Type 0

-- what statements work on, and the work of the last SELECT that printed rows: how many rows it opened, 0 where there
-- was none
pub record State (L : Type 0) : Type 0 where
  pub library : L
  pub database : Database
  pub work : ℕ

-- a query that raises an exception has ended badly
abbrev pub told_ended : Told → Ended
told_ended (Rows rows) = Well
told_ended (Exception raise) = Faulted

-- the work after a SELECT by plans of its blocks: where rows are printed, their total, and else what it was (Selinger
-- et al. 1979, section 4, has it as RSI calls)
abbrev pub IsWorkAfter : Database → Blocks → List Plan → Told → (before after : ℕ) → Type 0
IsWorkAfter db blocks plans (Rows rows) before after = after ≡ total_of current_version db blocks plans
IsWorkAfter db blocks plans (Exception raise) before after = after ≡ before

-- A SELECT is answered. Its blocks are bound; of each block there is a plan of its space that gives the required order
-- and costs no more than any that does, with the exact certificate that is valid for it; what is printed is the
-- definition's rows, each as often as there, in an order that ORDER BY allows, or one of the definition's exceptions,
-- exactly where it raises; and the work is that of these plans
pub record IsAnswered (db : Database) (q : Select) (text : List ℕ) (before after : ℕ) (ended : Ended) : Type 0 where
  pub blocks : Blocks
  pub bound : Binds db q blocks
  pub plans : List Plan
  pub certified : AreCertified current_version db blocks plans
  pub told : Told
  pub allowed : AllowedOf db blocks told
  pub printed : text ≡ shown (names_of blocks) told
  pub work : IsWorkAfter db blocks plans told before after
  pub ends : ended ≡ told_ended told

-- what LOAD makes of the records of a file (own)
pub data Loaded (db : Database) (name : Name) (t : Table) (records : List Record) (db' : Database) (text : List ℕ)
    (ended : Ended) : Type 0 where
  loaded : (rows : List Row) → AllLoad t t.rows records rows → length t.rows + length rows ≤ most_rows
      → db' ≡ changed (λ u. with_rows u rows) db name → text ≡ loaded_text (length rows) → ended ≡ Well
      → Loaded db name t records db' text ended
  too_many : FillsUp t records → db' ≡ db → text ≡ refusal_text OverLimit → ended ≡ Faulted
      → Loaded db name t records db' text ended
  refused : (r : Refusal) (number : ℕ) → FirstFaulty t records r number
      → db' ≡ db → text ≡ record_refusal_text r number → ended ≡ Faulted → Loaded db name t records db' text ended

-- a statement, from one state to the next, and what it prints; of several faults any one may be told, and that keys
-- repeat where there is none
pub data Step {L : Type 0} (answers : Answering L) (old : State L) (s : Statement) (new : State L) (text : List ℕ)
    (ended : Ended) : Type 0 where
  refused : (r : Refusal) → Faulty old.database s r
      → new ≡ old → text ≡ refusal_text r → ended ≡ Faulted → Step answers old s new text ended
  repeated : IsAccepted old.database s → RepeatsKeys old.database s
      → new ≡ old → text ≡ refusal_text NullOrRepeated → ended ≡ Faulted → Step answers old s new text ended
  made : (db : Database) → IsAccepted old.database s → Makes old.database s db
      → new ≡ record old { database = db } → text ≡ done_text → ended ≡ Well → Step answers old s new text ended
  no_file : (name : Name) (file : List ℕ) (library : L) → s ≡ Load name file → IsAccepted old.database s
      → answers old.library file None library
      → new ≡ record old { library = library } → text ≡ refusal_text NoFile → ended ≡ Faulted
      → Step answers old s new text ended
  load : (name : Name) (file bytes : List ℕ) (library : L) (t : Table) (records : List Record) (db : Database)
      → s ≡ Load name file → table_named old.database name ≡ Some t
      → answers old.library file (Some bytes) library → AreFileRecords bytes records
      → Loaded old.database name t records db text ended → new ≡ record old { library = library; database = db }
      → Step answers old s new text ended
  query : (q : Select) (work : ℕ) → s ≡ Query q → IsAccepted old.database s
      → IsAnswered old.database q text old.work work ended
      → new ≡ record old { work = work } → Step answers old s new text ended
  explain : (q : Select) (blocks : Blocks) → s ≡ Explain q → IsAccepted old.database s → Binds old.database q blocks
      → AreExplained current_version (certified_from old.database 0 blocks) text → new ≡ old → ended ≡ Well
      → Step answers old s new text ended

-- statements in order, their texts joined
abbrev pub Steps : {L : Type 0} → Answering L → State L → List Statement → State L → List ℕ → Ended → Type 0
Steps answers old [] new text ended = (new ≡ old) × (text ≡ []) × (ended ≡ Well)
Steps {L} answers old (s ∷ ss) new text ended =
    (mid : State L) × (own rest : List ℕ) × (e f : Ended) × Step answers old s mid own e
    × Steps answers mid ss new rest f
    × (text ≡ own ++ rest) × (ended ≡ both_ended e f)

-- the line of a fault of a script's text
pub data FaultLine (script text : List ℕ) : Type 0 where
  lexical : (f : LexFault) → LexFails script f → text ≡ fault_text f.refusal f.at → FaultLine script text
  syntax : (tokens : List Token) (r : Refusal) (at : ℕ) → Lexes script tokens → SyntaxFails tokens (length script) r at
      → text ≡ fault_text r at → FaultLine script text

-- the statements of a script
abbrev pub AreStatements : List ℕ → List Statement → Type 0
AreStatements script statements = (tokens : List Token) × Lexes script tokens × Derives (kinds tokens) statements

-- a script: its text is read as a whole first, and a fault of it prints one line and runs nothing
pub data Run {L : Type 0} (answers : Answering L) (old : State L) (script : List ℕ) (new : State L) (text : List ℕ)
    (ended : Ended) : Type 0 where
  fault : FaultLine script text → new ≡ old → ended ≡ Faulted → Run answers old script new text ended
  run : (statements : List Statement) → AreStatements script statements → Steps answers old statements new text ended
      → Run answers old script new text ended

-- why a run breaks off: memory was wanting, or a device failed
pub data Break : Type 0 where
  NoMemory LibraryFailed SinkFailed : Break

-- a statement that breaks off before it is done. For want of memory all is as it was, or a LOAD that was accepted so
-- far has asked for its file, and the library is as its answer left it, or as the failed request did; a failed library
-- is told of such a request alone. The database is as it was (own)
pub data StepBreaks {L : Type 0} (answers : Answering L) (fails : Failing L) (old : State L) (s : Statement)
    (break : Break) (new : State L) : Type 0 where
  unchanged : break ≡ NoMemory → new ≡ old → StepBreaks answers fails old s break new
  answered : (name : Name) (file : List ℕ) (answer : Option (List ℕ)) (library : L) → break ≡ NoMemory
      → s ≡ Load name file → IsAccepted old.database s
      → answers old.library file answer library → new ≡ record old { library = library }
      → StepBreaks answers fails old s break new
  failed : (name : Name) (file : List ℕ) (library : L) → break ≢ SinkFailed → s ≡ Load name file
      → IsAccepted old.database s
      → fails old.library file library → new ≡ record old { library = library }
      → StepBreaks answers fails old s break new

-- statements that break off: what was printed whole before, and a text of which no more than a beginning was printed,
-- which there is only where the sink failed, and then its statement is done
pub data StepsBreak {L : Type 0} (answers : Answering L) (fails : Failing L) (old : State L)
    (statements : List Statement) (break : Break) (new : State L) (printed begun : List ℕ) : Type 0 where
  undone : (front rest : List Statement) (s : Statement) (mid : State L) (ended : Ended)
      → statements ≡ front ++ s ∷ rest → Steps answers old front mid printed ended
      → StepBreaks answers fails mid s break new → begun ≡ []
      → StepsBreak answers fails old statements break new printed begun
  done : (front rest : List Statement) (s : Statement) (mid : State L) (ended own : Ended)
      → statements ≡ front ++ s ∷ rest → Steps answers old front mid printed ended
      → break ≡ SinkFailed → Step answers mid s new begun own
      → StepsBreak answers fails old statements break new printed begun

-- a run that breaks off, before a statement was run, at the line of a fault, or at a statement
pub data Breaks {L : Type 0} (answers : Answering L) (fails : Failing L) (old : State L) (script : List ℕ)
    (break : Break) (new : State L) (printed begun : List ℕ) : Type 0 where
  unread : break ≡ NoMemory → new ≡ old → printed ≡ [] → begun ≡ []
      → Breaks answers fails old script break new printed begun
  fault : break ≡ SinkFailed → FaultLine script begun → new ≡ old → printed ≡ []
      → Breaks answers fails old script break new printed begun
  steps : (statements : List Statement) → AreStatements script statements
      → StepsBreak answers fails old statements break new printed begun
      → Breaks answers fails old script break new printed begun
