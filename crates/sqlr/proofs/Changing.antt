-- What a statement that reads no file does is a step of the definitions.
use Rattle.std.proofs.Common.{◌≡◌, ◌∙◌, refl, sym, ap, List, Option, Some, Result, Ok, Err, IfOk, IfSome, Bool}
use Rattle.std.specs.Prelude.{unwrap_or}
use Rattle.definitions.specs.Ended as ends
use Rattle.definitions.specs.Statement.{Name, Statement, CreateIndex}
use Rattle.definitions.specs.Table.{Database}
use Rattle.definitions.specs.Refusal.{Refusal}
use Rattle.definitions.specs.Faults.{Faulty}
use Rattle.definitions.specs.Printing.{refusal_text}
use Rattle.definitions_execution.specs.Step as step
use Rattle.definitions_execution.specs.Step.{Answering, State}
use Rattle.catalog.specs.Changes.{RefusesIndex}
use Rattle.catalog.specs.Meaning.{index_refusal}
use Rattle.catalog.specs.declared.fault.IndexFault.{IndexFault}
use Rattle.catalog.specs.declared.fault.IndexFault.TheVariants as i
use Rattle.sqlr.specs.declared.ended.Ended.TheVariants as e
use Rattle.sqlr.specs.declared.outcome.Printed.{Printed}
use Rattle.sqlr.specs.declared.outcome.StepFault.{StepFault}
use Rattle.sqlr.specs.Outcomes.{Tells, Changes, refused, repeated, made}
use Rattle.sqlr.specs.Sessions.{Takes}

pub database_changed : {L : Type 0} (answers : Answering L) (old : State L) (db : Database) (s : Statement) (result : Result Printed StepFault) → IfOk result (Changes old.database s db)
    → IfOk result (Takes answers old s (record old { database = db }))
database_changed answers old db s (Ok p) (refused r f n t d) = (ends.Faulted, step.refused r f (ap (λ x. record old { database = x }) n) t refl, d)
database_changed answers old db s (Ok p) (repeated a k n t d) = (ends.Faulted, step.repeated a k (ap (λ x. record old { database = x }) n) t refl, d)
database_changed answers old db s (Ok p) (made a m t d) = (ends.Well, step.made db a m refl t refl, d)
database_changed answers old db s (Err f) h = tt

same_refusal : (refusal own : Refusal) → Some refusal ≡ Some own → refusal ≡ own
same_refusal refusal own same = ap (λ o. unwrap_or o refusal) same

of_refusal : (fault : Option Refusal) (own : Refusal) (P : Refusal → Type 0) → fault ≡ Some own → IfSome fault P → P own
of_refusal fault own P same h = let own' = rw same at h in own'

-- a refusal that a fault is is told
pub fault_told : (db db' : Database) (s : Statement) (fault told : Option Refusal) (result : Result Printed StepFault) → IfSome fault (Faulty db s) → told ≡ fault → db' ≡ db → IfOk result (Tells told) → IfOk result (Changes db s db')
fault_told db db' s fault told (Ok p) f same n t = refused t.own (of_refusal fault t.own (Faulty db s) (sym same ∙ t.is) f) n t.text t.ended
fault_told db db' s fault told (Err x) f same n t = tt

pub refusal_told : (db db' : Database) (s : Statement) (refusal told : Refusal) (result : Result Printed StepFault) → Faulty db s refusal → told ≡ refusal → db' ≡ db
    → IfOk result (λ (p : Printed). p.text.items ≡ refusal_text told) → IfOk result (λ (p : Printed). p.ended ≡ e.Faulted) → IfOk result (Changes db s db')
refusal_told db db' s refusal told (Ok p) f same n t d = refused refusal f n (t ∙ ap refusal_text same) d
refusal_told db db' s refusal told (Err x) f same n t d = tt

-- so is a fault of CREATE INDEX, be it that keys repeat
pub index_told : (db db' : Database) (unique : Bool) (table : Name) (columns : List Name) (fault : IndexFault) (told : Option Refusal) (result : Result Printed StepFault)
    → RefusesIndex db unique table columns fault → told ≡ index_refusal fault → db' ≡ db → IfOk result (Tells told) → IfOk result (Changes db (CreateIndex unique table columns) db')
index_told db db' unique table columns (i.Repeated key) told (Ok p) (a, k, again) same n t =
    repeated a k n (t.text ∙ ap refusal_text (sym (same_refusal _ t.own (sym same ∙ t.is)))) t.ended
index_told db db' unique table columns (i.Repeated key) told (Err x) f same n t = tt
index_told db db' unique table columns (i.List fault) told result f same n t = fault_told db db' _ _ told result f same n t
index_told db db' unique table columns (i.ColumnTwice column) told result f same n t = fault_told db db' _ _ told result f same n t
index_told db db' unique table columns (i.ListTaken index) told result f same n t = fault_told db db' _ _ told result f same n t
index_told db db' unique table columns i.ManyIndexes told result f same n t = fault_told db db' _ _ told result f same n t
index_told db db' unique table columns i.Memory told result f same n t = fault_told db db' _ _ told result f same n t
