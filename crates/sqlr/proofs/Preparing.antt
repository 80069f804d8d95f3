-- Statements before the last of a checking run, one after another.
use Rattle.std.proofs.Common.{ℕ, ◌≡◌, ◌≢◌, ◌<◌, ◌∙◌, ◌++◌, refl, sym, ap, subst, suc, List, [], ◌∷◌, Option, Some, None, length, take, drop, get_or, Bor}
use Rattle.std.specs.Prelude.{true, false, is_some, option_map}
use Rattle.definitions.specs.Ended as ends
use Rattle.definitions.specs.Statement.{Select, Statement}
use Rattle.definitions_execution.specs.Step.{Answering, Failing, State, Step, StepBreaks}
use Rattle.definitions_execution.proofs.ScriptSteps.{never_refused}
use Rattle.definitions_execution.specs.CheckingRun.{asked, Prepared, Prepares}
use Rattle.parse_tree.specs.declared.statement.Statement as tree
use Rattle.parse_tree.specs.declared.statement.Select as own
use Rattle.parse_tree.specs.Trees.{select_of, statement_of, statements_of}
use Rattle.sqlr.specs.declared.ended.Ended.TheVariants as e
use Rattle.sqlr.specs.declared.ended.RunFault.{RunFault}
use Rattle.sqlr.specs.declared.outcome.Printed.{Printed}
use Rattle.sqlr.specs.declared.outcome.StepFault.{StepFault}
use Rattle.sqlr.specs.Sessions.{break_of, ended_of, step_break, Takes}
use Rattle.sqlr.specs.Checking.{ArePrepared, BreaksPrepared, BreaksPreparing, IsIfRefused, IsPrepared}
use Rattle.sqlr.proofs.Running.{front, split}

-- ---- one statement

passed_asked : {L : Type 0} (answers : Answering L) (old : State L) (s : Statement) (o : Option Select) → o ≢ None → Prepared answers old s old o
passed_asked answers old s None some = absurd (some refl)
passed_asked answers old s (Some q) some = refl

passed : {L : Type 0} (answers : Answering L) (old : State L) (s : Statement) → asked s ≢ None → IsPrepared answers old s old None
passed answers old s some = passed_asked answers old s (asked s) some

asked_some : (s : Statement) (o : Option (Bor own.Select)) → option_map (λ (q : Bor own.Select). select_of q.now) o ≡ asked s → is_some o ≡ true → asked s ≢ None
asked_some s None e h k = cc
asked_some s (Some q) e h k =
    let both : Some (select_of q.now) ≡ None = e ∙ k in
    cc

pub asked_passed : {L : Type 0} (answers : Answering L) (old : State L) (s : Statement) (o : Option (Bor own.Select)) → option_map (λ (q : Bor own.Select). select_of q.now) o ≡ asked s → is_some o ≡ true
    → IsPrepared answers old s old None
asked_passed answers old s o e h = passed answers old s (asked_some s o e h)

pub none_asked : (s : Statement) (o : Option (Bor own.Select)) → option_map (λ (q : Bor own.Select). select_of q.now) o ≡ asked s → is_some o ≡ false → asked s ≡ None
none_asked s None e h = sym e
none_asked s (Some q) e h = absurd cc

ended_well : (how : ends.Ended) → ended_of how ≡ e.Well → how ≡ ends.Well
ended_well ends.Well h = refl
ended_well ends.Faulted h = absurd cc
ended_well ends.Refused h = absurd cc

ended_badly : (how : ends.Ended) → ended_of how ≢ e.Well → how ≢ ends.Refused → how ≡ ends.Faulted
ended_badly ends.Well h k = absurd (h refl)
ended_badly ends.Faulted h k = refl
ended_badly ends.Refused h k = absurd (k refl)

-- a step that is not refused, or one that is
pub kept_if_refused : {L : Type 0} (answers : Answering L) (old new : State L) (s : Statement) (p : Printed) (o : Option Printed)
    → asked s ≡ None → Takes answers old s new p → IsIfRefused p o → IsPrepared answers old s new o
kept_if_refused answers old new s p None none (how, this, is) well =
    let own : Step answers old s new p.text.items ends.Well = subst (λ h. Step answers old s new p.text.items h) (ended_well how (sym is ∙ well)) this in
    subst (λ o. Prepared answers old s new o) (sym none) (p.text.items, own)
kept_if_refused answers old new s p (Some kept) none (how, this, is) (same, bad) =
    let faulted : how ≡ ends.Faulted = ended_badly how (λ h. bad (is ∙ h)) (never_refused answers old new s p.text.items how this) in
    let own : Step answers old s new p.text.items ends.Faulted = subst (λ h. Step answers old s new p.text.items h) faulted this in
    subst (λ q. IsPrepared answers old s new (Some q)) (sym same) (none, own, is ∙ ap ended_of faulted)

-- ---- one after another

prepared_more : {L : Type 0} (answers : Answering L) (ss : List Statement) (old mid new : State L) (s : Statement)
    → Prepares answers old ss mid → Prepared answers mid s new (asked s) → Prepares answers old (ss ++ s ∷ []) new
prepared_more answers [] old mid new s same h = (new, subst (λ x. Prepared answers x s new (asked s)) same h, refl)
prepared_more answers (x ∷ ss) old mid new s (next, this, rest) h = (next, this, prepared_more answers ss next mid new s rest h)

abbrev pub PreparedTo : {L : Type 0} → Answering L → State L → List tree.Statement → ℕ → State L → Type 0
PreparedTo answers old xs i new = Prepares answers old (statements_of (take i xs)) new

pub one_more_prepared : {L : Type 0} (answers : Answering L) (old mid new : State L) (xs : List tree.Statement) (i : ℕ) (x : tree.Statement)
    → i < length xs → x ≡ get_or xs i x → PreparedTo answers old xs i mid → IsPrepared answers mid (statement_of x) new None → PreparedTo answers old xs (suc i) new
one_more_prepared answers old mid new xs i x l h ran this =
    subst (λ ss. Prepares answers old ss new) (sym (front xs i x l h)) (prepared_more answers (statements_of (take i xs)) old mid new (statement_of x) ran this)

pub one_refused : {L : Type 0} (answers : Answering L) (old mid new : State L) (xs : List tree.Statement) (i : ℕ) (x : tree.Statement) (p : Printed)
    → i < length xs → x ≡ get_or xs i x → PreparedTo answers old xs i mid → IsPrepared answers mid (statement_of x) new (Some p) → ArePrepared answers old (statements_of xs) new (Some p)
one_refused answers old mid new xs i x p l h ran this = (statements_of (take i xs), statements_of (drop (suc i) xs), statement_of x, mid, split xs i x l h, ran, this)

pub broke_preparing : {L : Type 0} (answers : Answering L) (fails : Failing L) (old mid new : State L) (xs : List tree.Statement) (i : ℕ) (x : tree.Statement) (fault : StepFault) (own : RunFault)
    → i < length xs → x ≡ get_or xs i x → PreparedTo answers old xs i mid → BreaksPrepared answers fails mid (statement_of x) new fault → break_of own ≡ step_break fault → BreaksPreparing answers fails old (statements_of xs) new own
broke_preparing answers fails old mid new xs i x fault own l h ran (none, broke) same =
    (statements_of (take i xs), statements_of (drop (suc i) xs), statement_of x, mid, split xs i x l h, ran, none, subst (λ b. StepBreaks answers fails mid (statement_of x) b new) (sym same) broke)
