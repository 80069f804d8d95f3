-- What a session's calls do, in the words of the definitions.
use Rattle.std.specs.Prelude.{ℕ, ◌≡◌, ◌<◌, List, Option, Some, Result, Ok, Err}
use Rattle.definitions.specs.Ended.{both_ended}
use Rattle.definitions.specs.Ended as ends
use Rattle.definitions.specs.Statement.{Name, Statement}
use Rattle.definitions.specs.Table.{Table, Database, table_named}
use Rattle.definitions.specs.Loading.{Record, AreFileRecords}
use Rattle.definitions_execution.specs.Step.{Answering, Failing, State, Step, Steps, Run, Loaded, Break, NoMemory}
use Rattle.definitions_execution.specs.Step.{LibraryFailed, SinkFailed, StepBreaks, StepsBreak, Breaks}
use Rattle.sqlr.specs.declared.ended.Ended.{Ended}
use Rattle.sqlr.specs.declared.ended.Ended.TheVariants as e
use Rattle.sqlr.specs.declared.ended.RunFault.{RunFault}
use Rattle.sqlr.specs.declared.ended.RunFault.TheVariants as r
use Rattle.sqlr.specs.declared.outcome.Printed.{Printed}
use Rattle.sqlr.specs.declared.outcome.StepFault.{StepFault}
use Rattle.sqlr.specs.declared.outcome.StepFault.TheVariants as f
use Rattle.sqlr.specs.Devices.{Took, TookBeginning, TookUpTo}

abbrev pub ended_of : ends.Ended → Ended
ended_of ends.Well = e.Well
ended_of ends.Faulted = e.Faulted
ended_of ends.Refused = e.Refused

abbrev pub break_of : RunFault → Break
break_of (r.Memory offset) = NoMemory
break_of (r.Library offset) = LibraryFailed
break_of r.Sink = SinkFailed

-- a statement takes one state to the next, and prints this
abbrev pub Takes : {L : Type 0} → Answering L → State L → Statement → State L → Printed → Type 0
Takes answers old s new p = (how : ends.Ended) × Step answers old s new p.text.items how × (p.ended ≡ ended_of how)

-- the bytes of a file are loaded into a table, and this is printed
pub record TakesBytes (db : Database) (name : Name) (bytes : List ℕ) (db' : Database) (p : Printed) : Type 0 where
  pub table : Table
  pub named : table_named db name ≡ Some table
  pub records : List Record
  pub are : AreFileRecords bytes records
  pub how : ends.Ended
  pub loaded : Loaded db name table records db' p.text.items how
  pub ended : p.ended ≡ ended_of how

-- a script is run: the sink took all that it prints
abbrev pub Runs : {L : Type 0} → Answering L → State L → List ℕ → State L → Option (List ℕ) → Option (List ℕ) → Ended
    → Type 0
Runs answers old script new taken taken' ended = (text : List ℕ) × (how : ends.Ended)
    × Run answers old script new text how × (ended ≡ ended_of how) × Took taken text taken'

-- a script's run breaks off: the sink took the beginning of what it prints
abbrev pub BreaksOff : {L : Type 0} → Answering L → Failing L → State L → List ℕ → State L → Option (List ℕ)
    → Option (List ℕ) → RunFault → Type 0
BreaksOff answers fails old script new taken taken' fault =
    (printed begun : List ℕ) × Breaks answers fails old script (break_of fault) new printed begun
    × TookUpTo taken printed begun taken'

-- statements are run: the sink took all that they print
abbrev pub RunsAll : {L : Type 0} → Answering L → State L → List Statement → State L → Option (List ℕ) → Option (List ℕ)
    → Ended → Type 0
RunsAll answers old ss new taken taken' ended = (text : List ℕ) × (how : ends.Ended) × Steps answers old ss new text how
    × (ended ≡ ended_of how) × Took taken text taken'

-- statements break off: the sink took the beginning of what they print
abbrev pub BreaksIn : {L : Type 0} → Answering L → Failing L → State L → List Statement → State L → Option (List ℕ)
    → Option (List ℕ) → RunFault → Type 0
BreaksIn answers fails old ss new taken taken' fault =
    (printed begun : List ℕ) × StepsBreak answers fails old ss (break_of fault) new printed begun
    × TookUpTo taken printed begun taken'

-- a line is printed, or breaks off
abbrev pub Prints : List ℕ → Option (List ℕ) → Option (List ℕ) → Ended → Type 0
Prints line taken taken' ended = (ended ≡ e.Faulted) × Took taken line taken'

abbrev pub BreaksLine : List ℕ → Option (List ℕ) → Option (List ℕ) → RunFault → Type 0
BreaksLine line taken taken' (r.Memory offset) = taken' ≡ taken
BreaksLine line taken taken' (r.Library offset) = ⊥
BreaksLine line taken taken' r.Sink = TookBeginning taken line taken'

-- how two statements ended, one behind the other
abbrev pub IsBoth : Ended → Ended → Ended → Type 0
IsBoth first second both = (a b : ends.Ended) → first ≡ ended_of a → second ≡ ended_of b
    → both ≡ ended_of (both_ended a b)

-- why a statement broke off, in the words of the definitions
abbrev pub step_break : StepFault → Break
step_break f.Memory = NoMemory
step_break f.Library = LibraryFailed

-- a statement breaks off
abbrev pub BreaksAt : {L : Type 0} → Answering L → Failing L → State L → Statement → State L → StepFault → Type 0
BreaksAt answers fails old s new fault = StepBreaks answers fails old s (step_break fault) new

-- ---- a device has failed in the call where that is told, and nowhere else

abbrev pub IsStepBlamed : {X : Type 0} → ℕ → ℕ → Result X StepFault → Type 0
IsStepBlamed before after (Ok x) = after ≡ before
IsStepBlamed before after (Err f.Library) = before < after
IsStepBlamed before after (Err f.Memory) = after ≡ before

abbrev pub IsLibraryBlamed : {X : Type 0} → ℕ → ℕ → Result X RunFault → Type 0
IsLibraryBlamed before after (Ok x) = after ≡ before
IsLibraryBlamed before after (Err (r.Library offset)) = before < after
IsLibraryBlamed before after (Err (r.Memory offset)) = after ≡ before
IsLibraryBlamed before after (Err r.Sink) = after ≡ before

abbrev pub IsSinkBlamed : {X : Type 0} → ℕ → ℕ → Result X RunFault → Type 0
IsSinkBlamed before after (Ok x) = after ≡ before
IsSinkBlamed before after (Err r.Sink) = before < after
IsSinkBlamed before after (Err (r.Library offset)) = after ≡ before
IsSinkBlamed before after (Err (r.Memory offset)) = after ≡ before
