-- Whole scripts and their texts, and what a refusal leaves.
use Rattle.std.proofs.Common.{◌≡◌, refl, sym, subst, ℕ, List, [], ◌∷◌, arith}
use Rattle.std.specs.Prelude.{codes, pos, cond, IsPermutation, IsSorted}
use Rattle.std.specs.Fmt.{digits}
use Rattle.std.specs.declared.cmp.Ordering.{Ordering}
use Rattle.definitions.specs.Ended.{Well, Faulted}
use Rattle.definitions.specs.Value.{Number}
use Rattle.definitions.specs.Refusal.{OpenString, Unexpected}
use Rattle.definitions.specs.Statement.{Select, Query}
use Rattle.definitions.specs.Grammar as g
use Rattle.definitions.specs.Table.{Row, Table, Database}
use Rattle.definitions.specs.Arithmetic.{Meaning, Is, Raises}
use Rattle.definitions.specs.Binding.Faults.{Binds}
use Rattle.definitions.specs.Queries.BoundBlock.{OrderKey, Blocks}
use Rattle.definitions.specs.Queries.Answer.{answer}
use Rattle.definitions.specs.Queries.Outcomes.{Told, Rows, Exception, Allowed, AllowedOf, order_keys, names_of, row_order, shown}
use Rattle.definitions.specs.Binding.BoundForm.{bound_form}
use Rattle.definitions.specs.Faults as faults
use Rattle.definitions.specs.Faults.{IsAccepted}
use Rattle.definitions.specs.Change as made
use Rattle.definitions_execution.specs.Step as step
use Rattle.definitions_execution.specs.Step.{Answering, Loaded, told_ended}
use Rattle.std.proofs.lemmas.List.Sorted.{sum_by-IsPermutation}
use Rattle.definitions_execution.specs.RunLaws.{FaultsChangeNothing, SelectPrintsAnswer, PrintsAnswer}
use Rattle.definitions_execution.specs.CheckingRun as checking
use Rattle.definitions_execution.specs.ScriptExamples.{ScriptsRun, EmptyScriptIsNothing}
use Rattle.definitions.specs.Examples.Binding.{t_and_u, faultless}
use Rattle.definitions_execution.proofs.Answered.{answered}
use Rattle.definitions.proofs.TextExamples.{texts_read, tokens_derive}
use Rattle.definitions.proofs.BindingTheory.WorkedBindings.{faultless_is_accepted}

-- SELECT X FROM T WHERE X = 1 prints the header, the one row and the count
accepted : IsAccepted t_and_u (Query faultless)
accepted r (faults.query q r' h) = faultless_is_accepted r' h

one_sorted : {X : Type 0} (order : X → X → Ordering) (x : X) → IsSorted order (x ∷ [])
one_sorted order x i d l m = absurd (omega (arith, m))

module _ {L : Type 0} (answers : Answering L) where
  pub scripts_run : ScriptsRun answers
  unfolding digits
  scripts_run = record {
    empty_script = λ s. step.run [] ([], ([], refl, refl), g.end 0 refl) (refl, refl, refl);
    open_string_line = λ s. step.fault (step.lexical (record { refusal = OpenString; at = 7 }) texts_read.open_string_at_7 refl) refl refl;
    syntax_line = λ s. step.fault (step.syntax _ Unexpected 5 (
      codes "LOAD" ∷ codes " " ∷ codes "FROM" ∷ codes " " ∷ codes "T" ∷ codes ";" ∷ [],
      (codes " FROM T;", refl, refl, refl, (codes "FROM T;", refl, refl, refl, (codes " T;", refl, refl, refl, (codes "T;", refl, refl, refl, (codes ";", refl, refl, refl, ([], refl, refl, refl, refl)))))),
      refl,
    )
        tokens_derive.load_from_fails_at_5 refl) refl refl;
    one_row_printed = λ lib before work (plans, certified, is). step.query faultless work refl accepted
        (answered t_and_u faultless (bound_form t_and_u faultless) (faultless_is_accepted, refl) plans certified (Rows ((Number (pos 1) 0 ∷ []) ∷ []))
        (record { moves = []; below = tt; is = refl }, one_sorted (row_order []) (Number (pos 1) 0 ∷ [])) before work is) refl;
  }

-- an error line leaves the database as it was
loaded_fault : (db db' : Database) (n : List ℕ) (t : Table) (records : _) (text : List ℕ) → Loaded db n t records db' text Faulted → db' ≡ db
loaded_fault db db' n t records text (step.loaded rows a l d e f) = absurd cc
loaded_fault db db' n t records text (step.too_many a d e f) = d
loaded_fault db db' n t records text (step.refused r k f d e g) = d

pub faults_change_nothing : {L : Type 0} (answers : Answering L) → FaultsChangeNothing answers
faults_change_nothing answers old new s text (step.refused r f n t e) = rw n refl
faults_change_nothing answers old new s text (step.repeated a b n t e) = rw n refl
faults_change_nothing answers old new s text (step.made db a b n t e) = absurd cc
faults_change_nothing answers old new s text (step.no_file a b l c d e n t f) = rw n refl
faults_change_nothing answers old new s text (step.load a b c l t r db e f g h lo n) = rw n (loaded_fault _ _ _ _ _ _ lo)
faults_change_nothing answers old new s text (step.query q work a b own n) = rw n refl
faults_change_nothing answers old new s text (step.explain q blocks a b c d n e) = rw n refl

same_query : (q q' : Select) → Query q ≡ Query q' → q ≡ q'
same_query q q' e = cc

rows_meant : (m : Meaning (List Row)) (keys : List OrderKey) (rows : List Row) → Allowed m keys (Rows rows) → (bag : List Row) × (m ≡ Is bag) × IsPermutation bag rows × IsSorted (row_order keys) rows
rows_meant (Is bag) keys rows h = (bag, refl, h.0, h.1)
rows_meant (Raises r rs) keys rows h = absurd h

printed : (db : Database) (q : Select) (text : List ℕ) (blocks : Blocks) → Binds db q blocks → (told : Told) → AllowedOf db blocks told → text ≡ shown (names_of blocks) told
    → Well ≡ told_ended told → PrintsAnswer db q text
printed db q text blocks bound (Exception raise) allowed is well = absurd cc
printed db q text blocks bound (Rows rows) allowed is well =
    let (bag, meant, permuted, sorted) = rows_meant (answer db blocks) (order_keys blocks) rows allowed in
    record {
      blocks = blocks;
      bound = bound;
      bag = bag;
      meant = meant;
      rows = rows;
      is = is;
      as_often = λ test. sum_by-IsPermutation (λ row. cond (test row) 1 0) bag rows permuted;
      sorted = sorted;
    }

-- what is printed for a query that is not refused, and raises no exception, is its answer
pub select_prints_answer : {L : Type 0} (answers : Answering L) → SelectPrintsAnswer answers
select_prints_answer answers old new q text (step.refused r f n t e) = absurd cc
select_prints_answer answers old new q text (step.repeated a b n t e) = absurd cc
select_prints_answer answers old new q text (step.made db a (made.created n c e f) g t w) = absurd cc
select_prints_answer answers old new q text (step.made db a (made.indexed u n c x m e f g h i) j t w) = absurd cc
select_prints_answer answers old new q text (step.made db a (made.table_set n r p e f) g t w) = absurd cc
select_prints_answer answers old new q text (step.made db a (made.index_set n c v x m y k e f g h i j) l t w) = absurd cc
select_prints_answer answers old new q text (step.no_file a b l c d e n t f) = absurd cc
select_prints_answer answers old new q text (step.load a b c l t r db e f g h lo n) = absurd cc
select_prints_answer answers old new q text (step.explain q' blocks s a bound are n e) = absurd cc
select_prints_answer answers old new q text (step.query q' work s a own n) =
    subst (λ x. PrintsAnswer old.database x text) (sym (same_query q q' s)) (printed old.database q' text own.blocks own.bound own.told own.allowed own.printed own.ends)

-- there is no statement to check
pub empty_script : EmptyScriptIsNothing
empty_script old file = checking.no_statement ([], ([], refl, refl), g.end 0 refl) refl refl refl
