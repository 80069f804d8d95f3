-- Each statement keeps a database a database.
use Rattle.std.proofs.Common.{◌≡◌, ◌≢◌, ◌∙◌, refl, sym, ℕ, List, Some}
use Rattle.definitions.specs.Ended.{Ended, Refused}
use Rattle.definitions.specs.Statement.{Name, Statement}
use Rattle.definitions.specs.Table.{Table, Database, table_named}
use Rattle.definitions.specs.Change.{with_rows}
use Rattle.definitions.specs.Queries.Outcomes.{Told, Rows, Exception}
use Rattle.definitions.specs.Invariant.{IsDatabase}
use Rattle.definitions.proofs.Changes.{made_database, database_changed, valid_named}
use Rattle.definitions.proofs.Counting.{loaded_is_table}
use Rattle.definitions_execution.specs.Step as step
use Rattle.definitions_execution.specs.Step.{Answering, State, Step, Loaded, told_ended}
use Rattle.definitions_execution.specs.RunLaws.{StepKeepsDatabase}

loaded_database : (db new : Database) (name : Name) (t : Table) (records : _) (text : List ℕ) (ended : Ended) → IsDatabase db → table_named db name ≡ Some t → Loaded db name t records new text ended → IsDatabase new
loaded_database db new name t records text ended h n (step.loaded rows a few e x y) =
    rw e (database_changed (λ u. with_rows u rows) db name t h n (λ u. refl) (loaded_is_table t records rows (valid_named db name t h n) a few))
loaded_database db new name t records text ended h n (step.too_many f e x y) = rw e h
loaded_database db new name t records text ended h n (step.refused r k f e x y) = rw e h

pub step_keeps_database : {L : Type 0} (answers : Answering L) → StepKeepsDatabase answers
step_keeps_database answers old new s text ended h (step.refused r f n t e) = rw n h
step_keeps_database answers old new s text ended h (step.repeated a b n t e) = rw n h
step_keeps_database answers old new s text ended h (step.made db a m n t e) = rw n (made_database old.database db s h a m)
step_keeps_database answers old new s text ended h (step.no_file a b l c d e n t f) = rw n h
step_keeps_database answers old new s text ended h (step.load name file bytes l t records db e named g k lo n) = rw n (loaded_database old.database db name t records text ended h named lo)
step_keeps_database answers old new s text ended h (step.query q work e a own n) = rw n h
step_keeps_database answers old new s text ended h (step.explain q blocks e a b are n w) = rw n h

-- ---- no statement ends as a refused certificate does

loaded_end : (db new : Database) (name : Name) (t : Table) (records : _) (text : List ℕ) (ended : Ended) → Loaded db name t records new text ended → ended ≢ Refused
loaded_end db new name t records text ended (step.loaded rows a few e x y) h = let k = sym y ∙ h in absurd cc
loaded_end db new name t records text ended (step.too_many f e x y) h = let k = sym y ∙ h in absurd cc
loaded_end db new name t records text ended (step.refused r k f e x y) h = let k' = sym y ∙ h in absurd cc

told_end : (told : Told) → told_ended told ≢ Refused
told_end (Rows rows) h = absurd cc
told_end (Exception raise) h = absurd cc

pub never_refused : {L : Type 0} (answers : Answering L) (old new : State L) (s : Statement) (text : List ℕ) (ended : Ended) → Step answers old s new text ended → ended ≢ Refused
never_refused answers old new s text ended (step.refused r f n t e) h = let k = sym e ∙ h in absurd cc
never_refused answers old new s text ended (step.repeated a b n t e) h = let k = sym e ∙ h in absurd cc
never_refused answers old new s text ended (step.made db a m n t e) h = let k = sym e ∙ h in absurd cc
never_refused answers old new s text ended (step.no_file a b l c d x n t e) h = let k = sym e ∙ h in absurd cc
never_refused answers old new s text ended (step.load name file bytes l t records db e named g k lo n) h = loaded_end old.database db name t records text ended lo h
never_refused answers old new s text ended (step.query q work e a own n) h = told_end own.told (sym own.ends ∙ h)
never_refused answers old new s text ended (step.explain q blocks e a b are n w) h = let k = sym w ∙ h in absurd cc
