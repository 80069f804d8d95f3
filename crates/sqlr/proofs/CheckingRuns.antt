-- Checking runs: what is printed, and how they break off.
use Rattle.std.proofs.Common.{ℕ, ◌≡◌, ◌≢◌, ◌<◌, ◌∙◌, ◌++◌, refl, sym, ap, subst, List, [], ◌∷◌, Option, Some, None, Result, Ok, Err, IfOk, IfErr, OnOk, OnErr, length, map}
use Rattle.std.proofs.lemmas.List.{append_assoc}
use Rattle.definitions.specs.Ended as ends
use Rattle.definitions.specs.Printing.{refusal_text}
use Rattle.definitions.specs.Refusal.{Refusal}
use Rattle.definitions.specs.Statement.{Select, Statement}
use Rattle.definitions.specs.Table.{Database}
use Rattle.definitions_execution.specs.Step.{Answering, Failing, State, AreStatements, FaultLine}
use Rattle.definitions.specs.Binding.Faults as binding
use Rattle.definitions.specs.Estimates.Version.{current_version}
use Rattle.definitions_execution.specs.CheckingRun as run
use Rattle.definitions_execution.specs.CheckingRun.{asked, nothing_text, Prepares, Checked}
use Rattle.parse_tree.specs.declared.statement.Statement as tree
use Rattle.parse_tree.specs.Trees.{statement_of, statements_of}
use Rattle.sqlr.specs.declared.ended.Ended.{Ended}
use Rattle.sqlr.specs.declared.ended.Ended.TheVariants as e
use Rattle.sqlr.specs.declared.ended.RunFault.{RunFault}
use Rattle.sqlr.specs.declared.ended.RunFault.TheVariants as r
use Rattle.sqlr.specs.declared.outcome.Printed.{Printed}
use Rattle.sqlr.specs.Devices.{Took, TookBeginning}
use Rattle.sqlr.specs.Sessions.{ended_of, BreaksLine, IsLibraryBlamed, IsSinkBlamed, Prints}
use Rattle.query_tree.specs.Bound.{block_of}
use Rattle.certificate_files.specs.Telling.{check_ended_of}
use Rattle.sqlr.specs.declared.checked.Bound.TheVariants as b
use Rattle.diagnostics.specs.declared.checked_file.CheckedFile.{CheckedFile}
use Rattle.sqlr.specs.Checking.{IsBound, IsChecked, end_of_file, ArePrepared, BreaksChecking, BreaksLast, BreaksPreparing, Checks, ChecksLast, LastChecked, QueryChecked, refused, told}
use Rattle.sqlr.proofs.Running.{took_all, took_nothing, took_up_to}

-- ---- a text that is put as a whole

module _ {L : Type 0} (answers : Answering L) (fails : Failing L) (old new : State L) (script file : List ℕ) (taken taken' : Option (List ℕ)) where
  pub text_put : (text : List ℕ) (how : ends.Ended) (ended : Ended) (result : Result Ended RunFault) → Checked answers current_version old script file new text how → ended ≡ ended_of how
      → IfOk result (λ own. own ≡ ended) → OnOk result (Took taken text taken') → IfOk result (Checks answers old script file new taken taken')
  text_put text how ended (Ok own) is end same took = (text, how, is, same ∙ end, took)
  text_put text how ended (Err fault) is end same took = tt

  begun_at : (text : List ℕ) (how : ends.Ended) (fault : RunFault) → Checked answers current_version old script file new text how → fault ≡ r.Sink → TookBeginning taken text taken'
      → BreaksChecking answers fails old script file new taken taken' fault
  begun_at text how fault is sink begun =
      subst (λ f. BreaksChecking answers fails old script file new taken taken' f) (sym sink) (text, run.unprinted how refl is, took_up_to taken taken taken' [] text (took_nothing taken) begun)

  pub text_begun : (text : List ℕ) (how : ends.Ended) (result : Result Ended RunFault) → Checked answers current_version old script file new text how
      → IfErr result (λ f. f ≡ r.Sink) → OnErr result (TookBeginning taken text taken') → IfErr result (BreaksChecking answers fails old script file new taken taken')
  text_begun text how (Ok own) is sink begun = tt
  text_begun text how (Err fault) is sink begun = begun_at text how fault is sink begun

-- ---- the script's text

pub nothing_read : {L : Type 0} (answers : Answering L) (fails : Failing L) (old : State L) (script file : List ℕ) (taken : Option (List ℕ)) (offset : ℕ) → BreaksChecking answers fails old script file old taken taken (r.Memory offset)
nothing_read answers fails old script file taken offset = ([], run.unread refl refl refl, took_all taken taken [] (took_nothing taken))

pub fault_put : {L : Type 0} (answers : Answering L) (old : State L) (script file line : List ℕ) (taken taken' : Option (List ℕ)) (result : Result Ended RunFault)
    → FaultLine script line → IfOk result (Prints line taken taken') → IfOk result (Checks answers old script file old taken taken')
fault_put answers old script file line taken taken' (Ok ended) f (is, took) = (line, ends.Faulted, run.fault f refl refl, is, took)
fault_put answers old script file line taken taken' (Err x) f h = tt

fault_begun_at : {L : Type 0} (answers : Answering L) (fails : Failing L) (old : State L) (script file line : List ℕ) (taken taken' : Option (List ℕ)) (fault : RunFault)
    → FaultLine script line → BreaksLine line taken taken' fault → BreaksChecking answers fails old script file old taken taken' fault
fault_begun_at answers fails old script file line taken taken' (r.Memory offset) f h =
    subst (λ x. BreaksChecking answers fails old script file old taken x (r.Memory offset)) (sym h) (nothing_read answers fails old script file taken offset)
fault_begun_at answers fails old script file line taken taken' (r.Library offset) f h = absurd h
fault_begun_at answers fails old script file line taken taken' r.Sink f h = begun_at answers fails old old script file taken taken' line ends.Faulted r.Sink (run.fault f refl refl) refl h

pub fault_begun : {L : Type 0} (answers : Answering L) (fails : Failing L) (old : State L) (script file line : List ℕ) (taken taken' : Option (List ℕ)) (result : Result Ended RunFault)
    → FaultLine script line → IfErr result (BreaksLine line taken taken') → IfErr result (BreaksChecking answers fails old script file old taken taken')
fault_begun answers fails old script file line taken taken' (Ok ended) f h = tt
fault_begun answers fails old script file line taken taken' (Err x) f h = fault_begun_at answers fails old script file line taken taken' x f h

-- ---- the statements

pub no_statement_checked : {L : Type 0} (answers : Answering L) (old : State L) (script file : List ℕ) (xs : List tree.Statement)
    → length xs ≡ 0 → AreStatements script (statements_of xs) → Checked answers current_version old script file old nothing_text ends.Faulted
no_statement_checked answers old script file [] none are = run.no_statement are refl refl refl
no_statement_checked answers old script file (x ∷ xs) none are = absurd cc

with_last : (front : List tree.Statement) (last : tree.Statement) → statements_of (front ++ last ∷ []) ≡ statements_of front ++ statement_of last ∷ []
with_last [] last = refl
with_last (x ∷ xs) last = ap (λ ss. statement_of x ∷ ss) (with_last xs last)

not_empty : (rest : List Statement) (s : Statement) → rest ++ s ∷ [] ≢ []
not_empty [] s h = absurd cc
not_empty (x ∷ rest) s h = absurd cc

module _ {L : Type 0} (answers : Answering L) (fails : Failing L) (old new : State L) (script file : List ℕ) (xs before : List tree.Statement) (last : tree.Statement)
    (parts : xs ≡ before ++ last ∷ []) (are : AreStatements script (statements_of xs)) where
  abbrev whole : AreStatements script (statements_of before ++ statement_of last ∷ [])
  whole = subst (λ ss. AreStatements script ss) (ap statements_of parts ∙ with_last before last) are

  refused_ended : (p : Printed) → ArePrepared answers old (statements_of before) new (Some p) → p.ended ≡ e.Faulted
  refused_ended p (front, rest, s, mid, is, prepared, (none, this, ended)) = ended

  refused_checked : (p : Printed) → ArePrepared answers old (statements_of before) new (Some p) → Checked answers current_version old script file new p.text.items ends.Faulted
  refused_checked p (front, rest, s, mid, is, prepared, (none, this, ended)) =
      let own : AreStatements script (front ++ s ∷ (rest ++ statement_of last ∷ [])) =
      subst (λ ss. AreStatements script ss) (ap (λ ss. ss ++ statement_of last ∷ []) is ∙ append_assoc front (s ∷ rest) (statement_of last ∷ [])) whole in
      run.refused front (rest ++ statement_of last ∷ []) s mid own (not_empty rest (statement_of last)) prepared none this refl

  pub refused_line : (p : Printed) (taken taken' : Option (List ℕ)) (result : Result Ended RunFault) → ArePrepared answers old (statements_of before) new (Some p)
      → IfOk result (λ own. own ≡ p.ended) → OnOk result (Took taken p.text.items taken') → IfOk result (Checks answers old script file new taken taken')
  refused_line p taken taken' result prepared same took =
      text_put answers fails old new script file taken taken' p.text.items ends.Faulted p.ended result (refused_checked p prepared) (refused_ended p prepared) same took

  pub refused_line_begun : (p : Printed) (taken taken' : Option (List ℕ)) (result : Result Ended RunFault) → ArePrepared answers old (statements_of before) new (Some p)
      → IfErr result (λ f. f ≡ r.Sink) → OnErr result (TookBeginning taken p.text.items taken') → IfErr result (BreaksChecking answers fails old script file new taken taken')
  refused_line_begun p taken taken' result prepared sink begun =
      text_begun answers fails old new script file taken taken' p.text.items ends.Faulted result (refused_checked p prepared) sink begun

  pub preparing_broke : (fault : RunFault) → BreaksPreparing answers fails old (statements_of before) new fault → (taken : Option (List ℕ)) → BreaksChecking answers fails old script file new taken taken fault
  preparing_broke fault (front, rest, s, mid, is, prepared, none, broke) taken =
      let own : AreStatements script (front ++ s ∷ (rest ++ statement_of last ∷ [])) =
      subst (λ ss. AreStatements script ss) (ap (λ ss. ss ++ statement_of last ∷ []) is ∙ append_assoc front (s ∷ rest) (statement_of last ∷ [])) whole in
      ([], run.unprepared front (rest ++ statement_of last ∷ []) s mid own (not_empty rest (statement_of last)) prepared none broke refl, took_all taken taken [] (took_nothing taken))

  module _ (prepared : Prepares answers old (statements_of before) new) where
    of_query : (q : Select) (text : List ℕ) (how : ends.Ended) → asked (statement_of last) ≡ Some q → QueryChecked new.database q file text how → Checked answers current_version old script file new text how
    of_query q text how is (refused refusal faulty own ended) = run.unbound (statements_of before) (statement_of last) q refusal whole prepared is faulty own ended
    of_query q text how is (told blocks binds own) = run.told (statements_of before) (statement_of last) q blocks whole prepared is binds own

    of_asked : (o : Option Select) (text : List ℕ) (how : ends.Ended) → asked (statement_of last) ≡ o → LastChecked new.database o file text how → Checked answers current_version old script file new text how
    of_asked None text how is (own, ended) = run.no_query (statements_of before) (statement_of last) whole prepared is own ended
    of_asked (Some q) text how is h = of_query q text how is h

    pub last_checked : (taken taken' : Option (List ℕ)) (result : Result Ended RunFault) → IfOk result (ChecksLast new.database (statement_of last) file taken taken') → IfOk result (Checks answers old script file new taken taken')
    last_checked taken taken' (Ok ended) (text, how, h, is, took) = (text, how, of_asked (asked (statement_of last)) text how refl h, is, took)
    last_checked taken taken' (Err fault) h = tt

    last_broke_at : (taken taken' : Option (List ℕ)) (fault : RunFault) → BreaksLast new.database (statement_of last) file taken taken' fault → BreaksChecking answers fails old script file new taken taken' fault
    last_broke_at taken taken' (r.Memory offset) h =
        subst (λ x. BreaksChecking answers fails old script file new taken x (r.Memory offset)) (sym h)
        ([], run.unchecked (statements_of before) (statement_of last) whole prepared refl refl, took_all taken taken [] (took_nothing taken))
    last_broke_at taken taken' (r.Library offset) h = absurd h
    last_broke_at taken taken' r.Sink (text, how, h, begun) =
        begun_at answers fails old new script file taken taken' text how r.Sink (of_asked (asked (statement_of last)) text how refl h) refl begun

    pub last_broke : (taken taken' : Option (List ℕ)) (result : Result Ended RunFault) → IfErr result (BreaksLast new.database (statement_of last) file taken taken') → IfErr result (BreaksChecking answers fails old script file new taken taken')
    last_broke taken taken' (Ok ended) h = tt
    last_broke taken taken' (Err fault) h = last_broke_at taken taken' fault h

-- ---- the last statement

module _ (db : Database) (s : Statement) (file : List ℕ) (taken taken' : Option (List ℕ)) where
  pub last_put : (text : List ℕ) (how : ends.Ended) (ended : Ended) (result : Result Ended RunFault) → LastChecked db (asked s) file text how → ended ≡ ended_of how
      → IfOk result (λ own. own ≡ ended) → OnOk result (Took taken text taken') → IfOk result (ChecksLast db s file taken taken')
  last_put text how ended (Ok own) is end same took = (text, how, is, same ∙ end, took)
  last_put text how ended (Err fault) is end same took = tt

  begun_last_at : (text : List ℕ) (how : ends.Ended) (fault : RunFault) → LastChecked db (asked s) file text how → fault ≡ r.Sink → TookBeginning taken text taken' → BreaksLast db s file taken taken' fault
  begun_last_at text how fault is sink begun = subst (λ f. BreaksLast db s file taken taken' f) (sym sink) (text, how, is, begun)

  pub last_begun : (text : List ℕ) (how : ends.Ended) (result : Result Ended RunFault) → LastChecked db (asked s) file text how
      → IfErr result (λ f. f ≡ r.Sink) → OnErr result (TookBeginning taken text taken') → IfErr result (BreaksLast db s file taken taken')
  last_begun text how (Ok own) is sink begun = tt
  last_begun text how (Err fault) is sink begun = begun_last_at text how fault is sink begun

  -- nothing is asked, or a query
  pub nothing_asked : asked s ≡ None → LastChecked db (asked s) file nothing_text ends.Faulted
  nothing_asked none = subst (λ o. LastChecked db o file nothing_text ends.Faulted) (sym none) (refl, refl)

  pub query_asked : (q : Select) (text : List ℕ) (how : ends.Ended) → Some q ≡ asked s → QueryChecked db q file text how → LastChecked db (asked s) file text how
  query_asked q text how is h = subst (λ o. LastChecked db o file text how) is h

  -- the line of a refused query
  pub refused_put : (q : Select) (p : Printed) (result : Result Ended RunFault) → Some q ≡ asked s → IsBound db q (b.Refused p)
      → IfOk result (λ own. own ≡ p.ended) → OnOk result (Took taken p.text.items taken') → IfOk result (ChecksLast db s file taken taken')
  refused_put q p result is h same took = last_put p.text.items ends.Faulted p.ended result (query_asked q p.text.items ends.Faulted is (h.1 file)) h.0 same took

  pub refused_begun : (q : Select) (p : Printed) (result : Result Ended RunFault) → Some q ≡ asked s → IsBound db q (b.Refused p)
      → IfErr result (λ f. f ≡ r.Sink) → OnErr result (TookBeginning taken p.text.items taken') → IfErr result (BreaksLast db s file taken taken')
  refused_begun q p result is h sink begun = last_begun p.text.items ends.Faulted result (query_asked q p.text.items ends.Faulted is (h.1 file)) sink begun

  -- what is told of its certificates
  all_told : (q : Select) (checked : CheckedFile) → IsChecked db q file checked → QueryChecked db q file checked.told.text.items (check_ended_of checked.told.ended)
  all_told q checked h = told (map block_of checked.blocks.now) h.0 h.1

  pub told_put : (q : Select) (checked : CheckedFile) (ended : Ended) (result : Result Ended RunFault) → Some q ≡ asked s → IsChecked db q file checked
      → ended ≡ end_of_file checked.told.ended → IfOk result (λ own. own ≡ ended) → OnOk result (Took taken checked.told.text.items taken') → IfOk result (ChecksLast db s file taken taken')
  told_put q checked ended result is h end same took =
      last_put checked.told.text.items (check_ended_of checked.told.ended) ended result (query_asked q checked.told.text.items (check_ended_of checked.told.ended) is (all_told q checked h)) end same took

  pub told_begun : (q : Select) (checked : CheckedFile) (result : Result Ended RunFault) → Some q ≡ asked s → IsChecked db q file checked
      → IfErr result (λ f. f ≡ r.Sink) → OnErr result (TookBeginning taken checked.told.text.items taken') → IfErr result (BreaksLast db s file taken taken')
  told_begun q checked result is h sink begun =
      last_begun checked.told.text.items (check_ended_of checked.told.ended) result (query_asked q checked.told.text.items (check_ended_of checked.told.ended) is (all_told q checked h)) sink begun

-- ---- the query

pub query_refused : (db : Database) (q : Select) (p : Printed) (refusal : Refusal) → binding.QueryFaulty db q refusal → p.text.items ≡ refusal_text refusal → p.ended ≡ e.Faulted → IsBound db q (b.Refused p)
query_refused db q p refusal faulty own ended = (ended, λ file. refused refusal faulty own refl)

pub binds_of : (db : Database) (q : Select) (file : List ℕ) (checked : CheckedFile) → IsChecked db q file checked → binding.Binds db q (map block_of checked.blocks.now)
binds_of db q file checked h = h.0

-- ---- who is blamed

-- where the sink alone can fail, the library has not
pub library_unasked : (before after : ℕ) (result : Result Ended RunFault) → after ≡ before → IfErr result (λ f. f ≡ r.Sink) → IsLibraryBlamed before after result
library_unasked before after (Ok ended) same h = same
library_unasked before after (Err fault) same h = subst (λ f. IsLibraryBlamed {X = Ended} before after (Err f)) (sym h) same

pub sink_blamed : (before after : ℕ) (result : Result Ended RunFault) → IfErr result (λ f. f ≡ r.Sink) → OnErr result (before < after) → OnOk result (after ≡ before) → IsSinkBlamed before after result
sink_blamed before after (Ok ended) is failed unfailed = unfailed
sink_blamed before after (Err fault) is failed unfailed = subst (λ f. IsSinkBlamed {X = Ended} before after (Err f)) (sym is) failed

pub sink_apart : (before after : ℕ) (fault : RunFault) → fault ≢ r.Sink → after ≡ before → IsSinkBlamed {X = Ended} before after (Err fault)
sink_apart before after (r.Memory offset) h same = same
sink_apart before after (r.Library offset) h same = same
sink_apart before after r.Sink h same = absurd (h refl)

pub never_library : (before after : ℕ) (db : Database) (s : Statement) (file : List ℕ) (taken taken' : Option (List ℕ)) (result : Result Ended RunFault)
    → after ≡ before → IfErr result (BreaksLast db s file taken taken') → IsLibraryBlamed before after result
never_library before after db s file taken taken' (Ok ended) same h = same
never_library before after db s file taken taken' (Err (r.Memory offset)) same h = same
never_library before after db s file taken taken' (Err (r.Library offset)) same h = absurd h
never_library before after db s file taken taken' (Err r.Sink) same h = same
