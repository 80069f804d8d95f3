-- What a statement's call gives is a step of the definitions.
use Rattle.std.proofs.Common.{ℕ, ◌≡◌, ◌≢◌, ◌∙◌, refl, sym, ap, subst, List, Option, Some, None, Result, Ok, Err, IfOk, Bor}
use Rattle.std.specs.Prelude.{true, false, is_some, unwrap_or}
use Rattle.std.specs.Option.{option_copied}
use Rattle.definitions.specs.Ended as ends
use Rattle.definitions.specs.Statement as tree
use Rattle.definitions.specs.Statement.{Name, Statement}
use Rattle.definitions.specs.Table.{Table, Database, table_named}
use Rattle.definitions.specs.Refusal as r
use Rattle.definitions.specs.Faults as faults
use Rattle.definitions.specs.Loading.{Record, AreFileRecords, FirstFaulty}
use Rattle.definitions.specs.Printing.{refusal_text, record_refusal_text, loaded_text}
use Rattle.definitions.specs.Plans.Plan.{Plan}
use Rattle.definitions.specs.Binding.Faults.{Binds}
use Rattle.definitions.specs.Queries.BoundBlock.{Blocks}
use Rattle.definitions.specs.Queries.Outcomes.{Told, Rows, Exception, AllowedOf, names_of, shown}
use Rattle.definitions.specs.Estimates.Version.{current_version}
use Rattle.definitions_execution.specs.Total.{AreCertified, total_of}
use Rattle.definitions_execution.specs.Step as step
use Rattle.definitions_execution.specs.Step.{Answering, State, IsAnswered, IsWorkAfter, told_ended}
use Rattle.definitions_execution.proofs.Answered.{answered}
use Rattle.loading.specs.Meaning.{record_refusal}
use Rattle.loading.specs.declared.fault.RefusedRecord.{RefusedRecord}
use Rattle.catalog.specs.Loads.{LoadsNamed, RefusesNamed}
use Rattle.catalog.specs.declared.fault.LoadFault.TheVariants as l
use Rattle.catalog.specs.declared.fault.RepeatedRecord.{RepeatedRecord}
use Rattle.sqlr.specs.declared.ended.Ended.TheVariants as e
use Rattle.sqlr.specs.declared.outcome.Printed.{Printed}
use Rattle.sqlr.specs.declared.outcome.StepFault.{StepFault}
use Rattle.sqlr.specs.Selecting as selecting
use Rattle.sqlr.specs.Selecting.{Answers}
use Rattle.sqlr.specs.Explaining as explaining
use Rattle.sqlr.specs.Explaining.{Explains}
use Rattle.sqlr.specs.Sessions.{Takes, TakesBytes}

-- ---- the table of a name

pub none_named : (db : Database) (name : Name) (o : Option (Bor Table)) → option_copied o ≡ table_named db name → is_some o ≡ false → table_named db name ≡ None
none_named db name None e h = sym e
none_named db name (Some t) e h = absurd cc

pub some_named : (db : Database) (name : Name) (o : Option (Bor Table)) → option_copied o ≡ table_named db name → is_some o ≡ true → table_named db name ≢ None
some_named db name None e h k = cc
some_named db name (Some t) e h k =
    let both : Some t.now ≡ None = e ∙ k in
    cc

-- ---- refusals

-- a statement is refused, and its line is told
pub refusal_told : {L : Type 0} (answers : Answering L) (old new : State L) (s : Statement) (result : Result Printed StepFault) (refusal : r.Refusal) → faults.Faulty old.database s refusal → new ≡ old
    → IfOk result (λ (p : Printed). p.text.items ≡ refusal_text refusal) → IfOk result (λ (p : Printed). p.ended ≡ e.Faulted) → IfOk result (Takes answers old s new)
refusal_told answers old new s (Ok p) refusal h n t d = (ends.Faulted, step.refused refusal h n t refl, d)
refusal_told answers old new s (Err f) refusal h n t d = tt

-- ---- LOAD

pub load_accepted : (db : Database) (name : Name) (file : List ℕ) → table_named db name ≢ None → faults.IsAccepted db (tree.Load name file)
load_accepted db name file h f (faults.no_table n g e) = h e

pub no_file_told : {L : Type 0} (answers : Answering L) (old new : State L) (library : L) (name : Name) (file : List ℕ) (result : Result Printed StepFault) → table_named old.database name ≢ None → answers old.library file None library
    → new ≡ record old { library = library } → IfOk result (λ (p : Printed). p.text.items ≡ refusal_text r.NoFile) → IfOk result (λ (p : Printed). p.ended ≡ e.Faulted) → IfOk result (Takes answers old (tree.Load name file) new)
no_file_told answers old new library name file (Ok p) h a n t d = (ends.Faulted, step.no_file name file library refl (load_accepted old.database name file h) a n t refl, d)
no_file_told answers old new library name file (Err f) h a n t d = tt

pub bytes_taken : {L : Type 0} (answers : Answering L) (old new : State L) (library : L) (db : Database) (name : Name) (file bytes : List ℕ) (p : Printed) → answers old.library file (Some bytes) library
    → TakesBytes old.database name bytes db p → new ≡ record old { library = library; database = db } → Takes answers old (tree.Load name file) new p
bytes_taken answers old new library db name file bytes p a h n = (h.how, step.load name file bytes library h.table h.records db refl h.named a h.are h.loaded n, h.ended)

pub rows_taken : (db db' : Database) (name : Name) (bytes : List ℕ) (n : ℕ) (p : Printed) → LoadsNamed name bytes db n db' → p.text.items ≡ loaded_text n → p.ended ≡ e.Well → TakesBytes db name bytes db' p
rows_taken db db' name bytes n p (t, named, (records, rows, are, all, few, count, new)) x d = record {
  table = t;
  named = named;
  records = records;
  are = are;
  how = ends.Well;
  loaded = step.loaded rows all few new (x ∙ ap loaded_text count) refl;
  ended = d;
}

-- the first record that is none is told
first_told : (db db' : Database) (name : Name) (bytes : List ℕ) (t : Table) (records : List Record) (refusal : r.Refusal) (number : ℕ) (result : Result Printed StepFault)
    → table_named db name ≡ Some t → AreFileRecords bytes records → FirstFaulty t records refusal number → db' ≡ db
    → IfOk result (λ (p : Printed). p.text.items ≡ record_refusal_text refusal number) → IfOk result (λ (p : Printed). p.ended ≡ e.Faulted) → IfOk result (TakesBytes db name bytes db')
first_told db db' name bytes t records refusal number (Ok p) named are first n x d = record {
  table = t;
  named = named;
  records = records;
  are = are;
  how = ends.Faulted;
  loaded = step.refused refusal number first n x refl;
  ended = d;
}
first_told db db' name bytes t records refusal number (Err f) named are first n x d = tt

pub record_told : (db db' : Database) (name : Name) (bytes : List ℕ) (refused : RefusedRecord) (refusal : r.Refusal) (result : Result Printed StepFault)
    → RefusesNamed name bytes db (l.Record refused) → refusal ≡ record_refusal refused.fault → db' ≡ db
    → IfOk result (λ (p : Printed). p.text.items ≡ record_refusal_text refusal refused.number) → IfOk result (λ (p : Printed). p.ended ≡ e.Faulted) → IfOk result (TakesBytes db name bytes db')
record_told db db' name bytes refused refusal result (t, named, (records, are, first)) s n x d =
    first_told db db' name bytes t records refusal refused.number result named are (rw s first) n x d

pub repeated_told : (db db' : Database) (name : Name) (bytes : List ℕ) (repeated : RepeatedRecord) (result : Result Printed StepFault)
    → RefusesNamed name bytes db (l.Repeated repeated) → db' ≡ db
    → IfOk result (λ (p : Printed). p.text.items ≡ record_refusal_text r.NullOrRepeated repeated.number) → IfOk result (λ (p : Printed). p.ended ≡ e.Faulted) → IfOk result (TakesBytes db name bytes db')
repeated_told db db' name bytes repeated result (t, named, (records, are, first, again)) n x d =
    first_told db db' name bytes t records r.NullOrRepeated repeated.number result named are first n x d

pub limit_told : (db db' : Database) (name : Name) (bytes : List ℕ) (result : Result Printed StepFault)
    → RefusesNamed name bytes db l.ManyRows → db' ≡ db
    → IfOk result (λ (p : Printed). p.text.items ≡ refusal_text r.OverLimit) → IfOk result (λ (p : Printed). p.ended ≡ e.Faulted) → IfOk result (TakesBytes db name bytes db')
limit_told db db' name bytes (Ok p) (t, named, (records, are, full)) n x d = record {
  table = t;
  named = named;
  records = records;
  are = are;
  how = ends.Faulted;
  loaded = step.too_many full n x refl;
  ended = d;
}
limit_told db db' name bytes (Err f) h n x d = tt

-- ---- SELECT

answered_as : (db : Database) (q : tree.Select) (text : List ℕ) (blocks : Blocks) (plans : List Plan) (told : Told) (before after : ℕ) → Binds db q blocks
    → AreCertified current_version db blocks plans → AllowedOf db blocks told → text ≡ shown (names_of blocks) told → IsWorkAfter db blocks plans told before after
    → IsAnswered db q text before after (told_ended told)
answered_as db q text blocks plans told before after bound certified allowed is work =
    subst (λ t. IsAnswered db q t before after (told_ended told)) (sym is) (answered db q blocks bound plans certified told allowed before after work)

-- the work is the one told, where one is
pub query_taken : {L : Type 0} (answers : Answering L) (old new : State L) (q : tree.Select) (p : Printed) → Answers old.database q p → new ≡ record old { work = unwrap_or p.work old.work } → Takes answers old (tree.Query q) new p
query_taken answers old new q p (selecting.refused r f t d w) n = (ends.Faulted, step.refused r f (n ∙ ap (λ o. record old { work = unwrap_or o old.work }) w) t refl, d)
query_taken answers old new q p (selecting.told blocks (Rows rows) plans a b allowed certified t d w) n =
    let work = total_of current_version old.database blocks plans in (
      ends.Well,
      step.query q work refl a (answered_as old.database q p.text.items blocks plans (Rows rows) old.work work b certified allowed t refl)
          (n ∙ ap (λ o. record old { work = unwrap_or o old.work }) w),
      d,
    )
query_taken answers old new q p (selecting.told blocks (Exception raise) plans a b allowed certified t d w) n = (
  ends.Faulted,
  step.query q old.work refl a (answered_as old.database q p.text.items blocks plans (Exception raise) old.work old.work b certified allowed t refl)
      (n ∙ ap (λ o. record old { work = unwrap_or o old.work }) w),
  d,
)

-- ---- EXPLAIN

pub explained_taken : {L : Type 0} (answers : Answering L) (s : State L) (q : tree.Select) (result : Result Printed StepFault) → IfOk result (Explains s.database q) → IfOk result (Takes answers s (tree.Explain q) s)
explained_taken answers s q (Ok p) (explaining.refused r f t d) = (ends.Faulted, step.refused r f refl t refl, d)
explained_taken answers s q (Ok p) (explaining.told blocks a b are d) = (ends.Well, step.explain q blocks refl a b are refl refl, d)
explained_taken answers s q (Err f) h = tt
