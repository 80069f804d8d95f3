-- What holds of statements and scripts, for whatever a library may answer. The crate sqlr proves them as contracts over
-- every library.
use Rattle.std.specs.Prelude.{ℕ, ◌≡◌, ⊤, List, [], ◌∷◌, ◌++◌, Option, Bool, IsSorted}
use Rattle.std.specs.List.{AllByRecursion, count_by}
use Rattle.definitions.specs.Ended.{Ended, Well, Faulted}
use Rattle.definitions.specs.Statement.{Name, Select, Statement, Query, Explain}
use Rattle.definitions.specs.Table.{Row, Table, Database}
use Rattle.definitions.specs.Loading.{Record, AreFileRecords}
use Rattle.definitions.specs.Arithmetic.{Is}
use Rattle.definitions.specs.Refusal.{Refusal}
use Rattle.definitions.specs.Faults.{Faulty}
use Rattle.definitions.specs.Queries.BoundBlock.{Blocks}
use Rattle.definitions.specs.Queries.Answer.{answer}
use Rattle.definitions.specs.Queries.Outcomes.{Told, AllowedOf, names_of, order_keys, row_order, shown}
use Rattle.definitions.specs.Binding.Faults.{Binds}
use Rattle.definitions.specs.Binding.Formed.{AreWritten}
use Rattle.definitions.specs.Invariant.{IsDatabase}
use Rattle.definitions.specs.Estimates.Version.{current_version}
use Rattle.definitions.specs.Certificates.Explaining.{certified_from, AreExplained}
use Rattle.definitions.specs.Printing.{table_text, refusal_text}
use Rattle.definitions_execution.specs.Step.{Answering, State, Step, Loaded, FaultLine, AreStatements, Run}

-- a text is that of a query's answer: the rows of the definition and no others, each as often as there, in an order in
-- which the keys of ORDER BY never fall
pub record PrintsAnswer (db : Database) (q : Select) (text : List ℕ) : Type 0 where
  pub blocks : Blocks
  pub bound : Binds db q blocks
  pub bag : List Row
  pub meant : answer db blocks ≡ Is bag
  pub rows : List Row
  pub is : text ≡ table_text (names_of blocks) rows
  pub as_often : (test : Row → Bool) → count_by test rows ≡ count_by test bag
  pub sorted : IsSorted (row_order (order_keys blocks)) rows

-- ---- two runs of one script

-- a request has one answer at most
abbrev pub AnswersOnce : {L : Type 0} → Answering L → Type 0
AnswersOnce {L} answers =
    (old : L) (name : List ℕ) (a b : Option (List ℕ)) (l m : L) → answers old name a l → answers old name b m → (a ≡ b)
    × (l ≡ m)

-- two texts of one statement: the same; the lines of two of its faults; two orders of one answer's rows, or two of its
-- exceptions; or two least plans of a block
pub data AreAlike (db : Database) (s : Statement) (a b : List ℕ) : Type 0 where
  same : a ≡ b → AreAlike db s a b
  faults : (r r' : Refusal) → Faulty db s r → Faulty db s r' → a ≡ refusal_text r → b ≡ refusal_text r'
      → AreAlike db s a b
  outcomes : (q : Select) (blocks : Blocks) (told told' : Told) → s ≡ Query q → Binds db q blocks
      → AllowedOf db blocks told → AllowedOf db blocks told'
      → a ≡ shown (names_of blocks) told → b ≡ shown (names_of blocks) told' → AreAlike db s a b
  plans : (q : Select) (blocks : Blocks) → s ≡ Explain q → Binds db q blocks
      → AreExplained current_version (certified_from db 0 blocks) a
      → AreExplained current_version (certified_from db 0 blocks) b → AreAlike db s a b

-- two states are one but for the work, since the least plans of a SELECT may open different numbers of rows
abbrev pub AreOneButForWork : {L : Type 0} → State L → State L → Type 0
AreOneButForWork a b = (a.library ≡ b.library) × (a.database ≡ b.database)

-- two texts of statements in order, each alike
abbrev pub AllAlike : {L : Type 0} → Answering L → State L → List Statement → List ℕ → List ℕ → Type 0
AllAlike answers old [] a b = (a ≡ []) × (b ≡ [])
AllAlike {L} answers old (s ∷ ss) a b =
    (mid mid' : State L) × (ended : Ended) × (own own' rest rest' : List ℕ) × Step answers old s mid own ended
    × Step answers old s mid' own' ended
    × AreOneButForWork mid mid' × AreAlike old.database s own own' × AllAlike answers mid ss rest rest'
    × (a ≡ own ++ rest) × (b ≡ own' ++ rest')

-- of one script: the lines of two of its faults, or all that its statements print
pub data RunsAlike {L : Type 0} (answers : Answering L) (old : State L) (script a b : List ℕ) : Type 0 where
  fault_lines : FaultLine script a → FaultLine script b → RunsAlike answers old script a b
  printed : (ss : List Statement) → AreStatements script ss → AllAlike answers old ss a b
      → RunsAlike answers old script a b

-- the query of a statement is as it can be written
abbrev pub QueriesAreWritten : Database → Statement → Type 0
QueriesAreWritten db (Query q) = AreWritten db q
QueriesAreWritten db (Explain q) = AreWritten db q
QueriesAreWritten db _ = ⊤

-- ---- laws

-- the queries of a script's statements are
abbrev pub ScriptsAreWritten : Type 0
ScriptsAreWritten = (script : List ℕ) (statements : List Statement) → AreStatements script statements
    → AllByRecursion (λ s. (db : Database) → QueriesAreWritten db s) statements

-- no text is without a reading: its statements, or the line of a fault
abbrev pub NoneWithoutReading : Type 0
NoneWithoutReading = (script : List ℕ) → ((text : List ℕ) → FaultLine script text → ⊥)
    → ((statements : List Statement) → AreStatements script statements → ⊥) → ⊥

-- a LOAD of given bytes has at most one outcome
abbrev pub LoadHasOneOutcome : Type 0
LoadHasOneOutcome =
    (db : Database) (name : Name) (t : Table) (bytes : List ℕ) (a b : List Record) (db' db'' : Database)
    (text text' : List ℕ) (ended ended' : Ended)
    → AreFileRecords bytes a → AreFileRecords bytes b → Loaded db name t a db' text ended
    → Loaded db name t b db'' text' ended'
    → (db' ≡ db'') × (text ≡ text') × (ended ≡ ended')

module _ {L : Type 0} (answers : Answering L) where
  -- each statement keeps a database a database
  abbrev pub StepKeepsDatabase : Type 0
  StepKeepsDatabase =
      (old new : State L) (s : Statement) (text : List ℕ) (ended : Ended) → IsDatabase old.database
      → Step answers old s new text ended → IsDatabase new.database

  -- a statement that ends badly leaves the database as it was
  abbrev pub FaultsChangeNothing : Type 0
  FaultsChangeNothing =
      (old new : State L) (s : Statement) (text : List ℕ) → Step answers old s new text Faulted
      → new.database ≡ old.database

  -- what is printed for a query that is not refused, and raises no exception, is its answer
  abbrev pub SelectPrintsAnswer : Type 0
  SelectPrintsAnswer =
      (old new : State L) (q : Select) (text : List ℕ) → Step answers old (Query q) new text Well
      → PrintsAnswer old.database q text

  -- where a request has one answer at most, two runs of a script lead to one state but for the work, end both well or
  -- both badly, and print alike
  abbrev pub RunsEndAlike : Type 0
  RunsEndAlike =
      AnswersOnce answers → (old new new' : State L) (script text text' : List ℕ) (ended ended' : Ended)
      → Run answers old script new text ended → Run answers old script new' text' ended'
      → AreOneButForWork new new' × (ended ≡ ended') × RunsAlike answers old script text text'

  -- ---- something happens: that nothing does is refuted, since which plan is least and what a field means are not
  -- decided here

  -- each request has an answer
  abbrev pub AnswersAll : Type 0
  AnswersAll = (old : L) (name : List ℕ) → (answer : Option (List ℕ)) × (new : L) × answers old name answer new

  -- then no statement is without a step
  abbrev pub NoneWithoutStep : Type 0
  NoneWithoutStep =
      AnswersAll → (old : State L) (s : Statement) → IsDatabase old.database → QueriesAreWritten old.database s
      → ((new : State L) (text : List ℕ) (ended : Ended) → Step answers old s new text ended → ⊥) → ⊥

  -- and no script without a run
  abbrev pub NoneWithoutRun : Type 0
  NoneWithoutRun = AnswersAll → (old : State L) (script : List ℕ) → IsDatabase old.database
      → ((new : State L) (text : List ℕ) (ended : Ended) → Run answers old script new text ended → ⊥) → ⊥
