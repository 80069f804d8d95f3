-- Statements that break off, and who is blamed.
use Rattle.std.proofs.Common.{ℕ, ◌≡◌, ◌≢◌, ◌∙◌, refl, sym, ap, ap₂, subst, List, Option, None, Result, Ok, Err, IfErr, OnErr}
use Rattle.definitions.specs.Statement as tree
use Rattle.definitions.specs.Statement.{Name, Statement}
use Rattle.definitions.specs.Table.{Database, table_named}
use Rattle.definitions_execution.specs.Step as step
use Rattle.definitions_execution.specs.Step.{Answering, Failing, State}
use Rattle.sqlr.specs.declared.outcome.StepFault.{StepFault}
use Rattle.sqlr.specs.declared.outcome.StepFault.TheVariants as f
use Rattle.sqlr.specs.Sessions.{BreaksAt, IsStepBlamed}
use Rattle.sqlr.proofs.Taking.{load_accepted}

abbrev state_of : {L : Type 0} → L → Database → ℕ → State L
state_of library db work = record { library = library; database = db; work = work }

-- ---- who is blamed

-- want of memory blames nobody
pub none_blamed : {X : Type 0} (before after : ℕ) (result : Result X StepFault) → after ≡ before → IfErr result (λ fault. fault ≡ f.Memory) → IsStepBlamed before after result
none_blamed before after (Ok x) same h = same
none_blamed {X = X} before after (Err fault) same h = subst (λ fault. IsStepBlamed {X = X} before after (Err fault)) (sym h) same

-- ---- states

-- a state whose database is kept where a call fails, and whose library and work are kept
pub all_kept : {L X : Type 0} (library library' : L) (db db' : Database) (work work' : ℕ) (result : Result X StepFault) → library' ≡ library → work' ≡ work → OnErr result (db' ≡ db)
    → OnErr result (state_of library' db' work' ≡ state_of library db work)
all_kept library library' db db' work work' (Ok x) same idle kept = tt
all_kept library library' db db' work work' (Err fault) same idle kept = ap₂ (λ l d. state_of l d work') same kept ∙ ap (state_of library db) idle

pub as_it_was : {X S : Type 0} (state : S) (result : Result X StepFault) → OnErr result (state ≡ state)
as_it_was state (Ok x) = tt
as_it_was state (Err fault) = refl

-- ---- statements

module _ {L : Type 0} (answers : Answering L) (fails : Failing L) where
  -- nothing is changed
  pub nothing_changed : {X : Type 0} (old : State L) (s : Statement) (result : Result X StepFault) → IfErr result (λ fault. fault ≡ f.Memory) → IfErr result (BreaksAt answers fails old s old)
  nothing_changed old s (Ok x) h = tt
  nothing_changed old s (Err fault) h = subst (BreaksAt answers fails old s old) (sym h) (step.unchanged refl refl)

  pub database_kept : {X : Type 0} (old : State L) (db : Database) (s : Statement) (result : Result X StepFault) → IfErr result (λ fault. fault ≡ f.Memory) → OnErr result (db ≡ old.database)
      → IfErr result (BreaksAt answers fails old s (record old { database = db }))
  database_kept old db s (Ok x) h kept = tt
  database_kept old db s (Err fault) h kept =
      subst (BreaksAt answers fails old s (record old { database = db })) (sym h)
      (step.unchanged refl (ap (λ database. let state : State L = record old { database = database } in state) kept))

  module _ (old : State L) (library : L) (name : Name) (file : List ℕ) (some : table_named old.database name ≢ None) where
    -- a LOAD whose file was answered
    pub answered_at : {X : Type 0} (new : State L) (answer : Option (List ℕ)) (result : Result X StepFault) → answers old.library file answer library → IfErr result (λ fault. fault ≡ f.Memory)
        → OnErr result (new ≡ record old { library = library }) → IfErr result (BreaksAt answers fails old (tree.Load name file) new)
    answered_at new answer (Ok x) given h kept = tt
    answered_at new answer (Err fault) given h kept =
        subst (BreaksAt answers fails old (tree.Load name file) new) (sym h) (step.answered name file answer library refl refl (load_accepted old.database name file some) given kept)

    -- a LOAD whose request failed
    pub failed_at : (new : State L) (fault : StepFault) → fails old.library file library → new ≡ record old { library = library } → BreaksAt answers fails old (tree.Load name file) new fault
    failed_at new f.Memory failed kept = step.failed name file library (λ k. cc) refl (load_accepted old.database name file some) failed kept
    failed_at new f.Library failed kept = step.failed name file library (λ k. cc) refl (load_accepted old.database name file some) failed kept
