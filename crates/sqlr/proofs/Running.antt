-- Steps one after another, and what a sink has taken of their texts.
use Rattle.std.proofs.Common.{ℕ, ◌≡◌, ◌<◌, ◌∙◌, ◌++◌, refl, sym, ap, subst, zero, suc, List, [], ◌∷◌, Option, Some, None, Result, Ok, Err, length, take, drop, get_or, IfOk, IfErr, arith}
use Rattle.std.specs.Prelude.{◌+◌}
use Rattle.std.proofs.lemmas.List.{append-nil, append_assoc}
use Rattle.definitions.specs.Grammar.{Derives}
use Rattle.definitions.specs.Ended.{both_ended}
use Rattle.definitions.specs.Ended as ends
use Rattle.definitions.specs.Statement.{Statement}
use Rattle.definitions_execution.specs.Step as step
use Rattle.definitions_execution.specs.Step.{Answering, Failing, State, Step, Steps, FaultLine, StepBreaks}
use Rattle.lexer.specs.Meaning.{kinds_of, tokens_of}
use Rattle.lexer.specs.declared.token.Token.{Token}
use Rattle.parse_tree.specs.declared.statement.Statement as tree
use Rattle.parse_tree.specs.Trees.{statement_of, statements_of}
use Rattle.sqlr.specs.declared.ended.Ended.{Ended}
use Rattle.sqlr.specs.declared.ended.Ended.TheVariants as e
use Rattle.sqlr.specs.declared.ended.RunFault.{RunFault}
use Rattle.sqlr.specs.declared.ended.RunFault.TheVariants as r
use Rattle.sqlr.specs.declared.outcome.Printed.{Printed}
use Rattle.sqlr.specs.Scripts.{AreScript}
use Rattle.sqlr.specs.Devices.{Took, TookBeginning, TookUpTo}
use Rattle.sqlr.specs.Sessions.{break_of, BreaksIn, BreaksLine, BreaksOff, IsBoth, IsLibraryBlamed, Runs, RunsAll, Takes, Prints}

pub next : (i : ℕ) → i + 1 ≡ suc i
next i = omega arith

-- ---- how statements ended

ended_first : (a : ends.Ended) → both_ended a ends.Well ≡ a
ended_first ends.Well = refl
ended_first ends.Faulted = refl
ended_first ends.Refused = refl

ended_assoc : (a b c : ends.Ended) → both_ended (both_ended a b) c ≡ both_ended a (both_ended b c)
ended_assoc ends.Well b c = refl
ended_assoc ends.Faulted b c = refl
ended_assoc ends.Refused b c = refl

-- ---- steps

-- steps, and those behind them
steps_on : {L : Type 0} (answers : Answering L) (ss ts : List Statement) (old mid new : State L) (text own : List ℕ) (a b : ends.Ended)
    → Steps answers old ss mid text a → Steps answers mid ts new own b → Steps answers old (ss ++ ts) new (text ++ own) (both_ended a b)
steps_on answers [] ts old mid new text own a b (same, none, well) h =
    let from_old : Steps answers old ts new own b = subst (λ x. Steps answers x ts new own b) same h in
    let joined : Steps answers old ts new (text ++ own) b = subst (λ t. Steps answers old ts new (t ++ own) b) (sym none) from_old in
    subst (λ e. Steps answers old ts new (text ++ own) (both_ended e b)) (sym well) joined
steps_on answers (x ∷ ss) ts old mid new text own a b (next, first, rest, c, d, this, others, joined, both) h =
    (next, first, rest ++ own, c, both_ended d b, this, steps_on answers ss ts next mid new rest own d b others h, ap (λ t. t ++ own) joined ∙ append_assoc first rest own, ap (λ x. both_ended x b) both ∙ ended_assoc c d b)

one_step : {L : Type 0} (answers : Answering L) (s : Statement) (old new : State L) (text : List ℕ) (a : ends.Ended) → Step answers old s new text a → Steps answers old (s ∷ []) new text a
one_step answers s old new text a this = (new, text, [], a, ends.Well, this, (refl, refl, refl), sym (append-nil text), sym (ended_first a))

-- ---- sinks

pub took_nothing : (taken : Option (List ℕ)) → Took taken [] taken
took_nothing None = tt
took_nothing (Some before) = ap (λ x. Some x) (sym (append-nil before))

took_more : (a b c : Option (List ℕ)) (text own : List ℕ) → Took a text b → Took b own c → Took a (text ++ own) c
took_more None b c text own h k = tt
took_more (Some before) b c text own h k =
    let took : Took (Some (before ++ text)) own c = subst (λ x. Took x own c) h k in
    took ∙ ap (λ x. Some x) (append_assoc before text own)

-- a text that was taken, and a beginning of the next
pub took_up_to : (a b c : Option (List ℕ)) (text own : List ℕ) → Took a text b → TookBeginning b own c → TookUpTo a text own c
took_up_to None b c text own h k = tt
took_up_to (Some before) b c text own h k = subst (λ x. TookBeginning x own c) h k

-- nothing of the next
pub took_all : (a b : Option (List ℕ)) (text : List ℕ) → Took a text b → TookUpTo a text [] b
took_all None b text h = tt
took_all (Some before) b text h = (0, omega arith, h ∙ ap (λ x. Some x) (sym (append-nil (before ++ text))))

-- ---- the statements of a list

pub front : (xs : List tree.Statement) (i : ℕ) (x : tree.Statement) → i < length xs → x ≡ get_or xs i x → statements_of (take (suc i) xs) ≡ statements_of (take i xs) ++ statement_of x ∷ []
front [] i x l h = absurd (omega (arith, l))
front (y ∷ xs) zero x l h = ap (λ z. statement_of z ∷ []) (sym h)
front (y ∷ xs) (suc i) x l h = ap (λ zs. statement_of y ∷ zs) (front xs i x (omega (arith, l)) h)

pub split : (xs : List tree.Statement) (i : ℕ) (x : tree.Statement) → i < length xs → x ≡ get_or xs i x → statements_of xs ≡ statements_of (take i xs) ++ statement_of x ∷ statements_of (drop (suc i) xs)
split [] i x l h = absurd (omega (arith, l))
split (y ∷ xs) zero x l h = ap (λ z. statement_of z ∷ statements_of xs) (sym h)
split (y ∷ xs) (suc i) x l h = ap (λ zs. statement_of y ∷ zs) (split xs i x (omega (arith, l)) h)

-- ---- statements, one behind the other

pub nothing_ran : {L : Type 0} (answers : Answering L) (old : State L) (taken : Option (List ℕ)) → RunsAll answers old [] old taken taken e.Well
nothing_ran answers old taken = ([], ends.Well, (refl, refl, refl), refl, took_nothing taken)

pub ran_on : {L : Type 0} (answers : Answering L) (old mid new : State L) (ss ts : List Statement) (taken taken' taken'' : Option (List ℕ)) (ended own both : Ended)
    → RunsAll answers old ss mid taken taken' ended → RunsAll answers mid ts new taken' taken'' own → IsBoth ended own both → RunsAll answers old (ss ++ ts) new taken taken'' both
ran_on answers old mid new ss ts taken taken' taken'' ended own both (text, how, ran, is, took) (text', how', ran', is', took') b =
    (text ++ text', both_ended how how', steps_on answers ss ts old mid new text text' how how' ran ran', b how how' is is', took_more taken taken' taken'' text text' took took')

-- some are done, and those behind them break off
steps_broke : {L : Type 0} (answers : Answering L) (fails : Failing L) (old mid new : State L) (ss ts : List Statement) (break : step.Break) (text printed begun : List ℕ) (a : ends.Ended)
    → Steps answers old ss mid text a → step.StepsBreak answers fails mid ts break new printed begun → step.StepsBreak answers fails old (ss ++ ts) break new (text ++ printed) begun
steps_broke answers fails old mid new ss ts break text printed begun a ran (step.undone front rest s from ended is before broke none) =
    step.undone (ss ++ front) rest s from (both_ended a ended) (ap (λ xs. ss ++ xs) is ∙ sym (append_assoc ss front (s ∷ rest))) (steps_on answers ss front old mid from text printed a ended ran before) broke none
steps_broke answers fails old mid new ss ts break text printed begun a ran (step.done front rest s from ended own is before sink this) =
    step.done (ss ++ front) rest s from (both_ended a ended) own (ap (λ xs. ss ++ xs) is ∙ sym (append_assoc ss front (s ∷ rest))) (steps_on answers ss front old mid from text printed a ended ran before) sink this

up_to_more : (a b c : Option (List ℕ)) (text printed begun : List ℕ) → Took a text b → TookUpTo b printed begun c → TookUpTo a (text ++ printed) begun c
up_to_more None b c text printed begun h k = tt
up_to_more (Some before) b c text printed begun h k =
    let up : TookUpTo (Some (before ++ text)) printed begun c = subst (λ x. TookUpTo x printed begun c) h k in
    subst (λ x. TookBeginning (Some x) begun c) (append_assoc before text printed) up

pub broke_on : {L : Type 0} (answers : Answering L) (fails : Failing L) (old mid new : State L) (ss ts : List Statement) (taken taken' taken'' : Option (List ℕ)) (ended : Ended) (fault : RunFault)
    → RunsAll answers old ss mid taken taken' ended → BreaksIn answers fails mid ts new taken' taken'' fault → BreaksIn answers fails old (ss ++ ts) new taken taken'' fault
broke_on answers fails old mid new ss ts taken taken' taken'' ended fault (text, how, ran, is, took) (printed, begun, broke, up) =
    (text ++ printed, begun, steps_broke answers fails old mid new ss ts (break_of fault) text printed begun how ran broke, up_to_more taken taken' taken'' text printed begun took up)

-- where a list breaks off, a longer one does
longer_broke : {L : Type 0} (answers : Answering L) (fails : Failing L) (old new : State L) (ss ts : List Statement) (break : step.Break) (printed begun : List ℕ) → step.StepsBreak answers fails old ss break new printed begun → step.StepsBreak answers fails old (ss ++ ts) break new printed begun
longer_broke answers fails old new ss ts break printed begun (step.undone front rest s mid ended is before broke none) =
    step.undone front (rest ++ ts) s mid ended (ap (λ xs. xs ++ ts) is ∙ append_assoc front (s ∷ rest) ts) before broke none
longer_broke answers fails old new ss ts break printed begun (step.done front rest s mid ended own is before sink this) =
    step.done front (rest ++ ts) s mid ended own (ap (λ xs. xs ++ ts) is ∙ append_assoc front (s ∷ rest) ts) before sink this

pub broke_before : {L : Type 0} (answers : Answering L) (fails : Failing L) (old new : State L) (ss ts : List Statement) (taken taken' : Option (List ℕ)) (fault : RunFault) → BreaksIn answers fails old ss new taken taken' fault → BreaksIn answers fails old (ss ++ ts) new taken taken' fault
broke_before answers fails old new ss ts taken taken' fault (printed, begun, broke, up) = (printed, begun, longer_broke answers fails old new ss ts (break_of fault) printed begun broke, up)

-- ---- one statement

pub one_ran : {L : Type 0} (answers : Answering L) (old new : State L) (s : Statement) (taken taken' : Option (List ℕ)) (p : Printed) → Takes answers old s new p → Took taken p.text.items taken' → RunsAll answers old (s ∷ []) new taken taken' p.ended
one_ran answers old new s taken taken' p (how, this, is) took = (p.text.items, how, one_step answers s old new p.text.items how this, is, took)

-- a statement breaks off, and is not done
pub broke_undone : {L : Type 0} (answers : Answering L) (fails : Failing L) (old new : State L) (s : Statement) (taken : Option (List ℕ)) (fault : RunFault) → StepBreaks answers fails old s (break_of fault) new → BreaksIn answers fails old (s ∷ []) new taken taken fault
broke_undone answers fails old new s taken fault broke = ([], [], step.undone [] [] s old ends.Well refl (refl, refl, refl) broke refl, took_all taken taken [] (took_nothing taken))

-- the sink refuses its text
pub broke_done : {L : Type 0} (answers : Answering L) (fails : Failing L) (old new : State L) (s : Statement) (taken taken' : Option (List ℕ)) (p : Printed) → Takes answers old s new p → TookBeginning taken p.text.items taken' → BreaksIn answers fails old (s ∷ []) new taken taken' r.Sink
broke_done answers fails old new s taken taken' p (own, this, is) begun = ([], p.text.items, step.done [] [] s old ends.Well own refl (refl, refl, refl) refl this, took_up_to taken taken taken' [] p.text.items (took_nothing taken) begun)

-- ---- scripts

pub script_ran : {L : Type 0} (answers : Answering L) (old new : State L) (script : List ℕ) (tokens : List Token) (taken taken' : Option (List ℕ)) (result : Result Ended RunFault)
    → AreScript script tokens → ((ss : List Statement) → Derives (kinds_of tokens) ss → IfOk result (RunsAll answers old ss new taken taken')) → IfOk result (Runs answers old script new taken taken')
script_ran answers old new script tokens taken taken' (Ok ended) a runs =
    let it = runs a.1.0 a.1.1 in (it.0, it.1, step.run a.1.0 (tokens_of tokens, a.0, a.1.1) it.2, it.3, it.4)
script_ran answers old new script tokens taken taken' (Err f) a runs = tt

pub script_broke : {L : Type 0} (answers : Answering L) (fails : Failing L) (old new : State L) (script : List ℕ) (tokens : List Token) (taken taken' : Option (List ℕ)) (result : Result Ended RunFault)
    → AreScript script tokens → ((ss : List Statement) → Derives (kinds_of tokens) ss → IfErr result (BreaksIn answers fails old ss new taken taken')) → IfErr result (BreaksOff answers fails old script new taken taken')
script_broke answers fails old new script tokens taken taken' (Ok ended) a breaks = tt
script_broke answers fails old new script tokens taken taken' (Err f) a breaks =
    let it = breaks a.1.0 a.1.1 in (it.0, it.1, step.steps a.1.0 (tokens_of tokens, a.0, a.1.1) it.2, it.3)

pub line_printed : {L : Type 0} (answers : Answering L) (old : State L) (script line : List ℕ) (taken taken' : Option (List ℕ)) (result : Result Ended RunFault)
    → FaultLine script line → IfOk result (Prints line taken taken') → IfOk result (Runs answers old script old taken taken')
line_printed answers old script line taken taken' (Ok ended) f (is, took) = (line, ends.Faulted, step.fault f refl refl, is, took)
line_printed answers old script line taken taken' (Err x) f h = tt

pub nothing_done : {L : Type 0} (answers : Answering L) (fails : Failing L) (old : State L) (script : List ℕ) (taken : Option (List ℕ)) (offset : ℕ) → BreaksOff answers fails old script old taken taken (r.Memory offset)
nothing_done answers fails old script taken offset = ([], [], step.unread refl refl refl refl, took_all taken taken [] (took_nothing taken))

line_broke_at : {L : Type 0} (answers : Answering L) (fails : Failing L) (old : State L) (script line : List ℕ) (taken taken' : Option (List ℕ)) (fault : RunFault) → FaultLine script line → BreaksLine line taken taken' fault → BreaksOff answers fails old script old taken taken' fault
line_broke_at answers fails old script line taken taken' (r.Memory offset) f h = subst (λ x. BreaksOff answers fails old script old taken x (r.Memory offset)) (sym h) (nothing_done answers fails old script taken offset)
line_broke_at answers fails old script line taken taken' (r.Library offset) f h = absurd h
line_broke_at answers fails old script line taken taken' r.Sink f h = ([], line, step.fault refl f refl refl, took_up_to taken taken taken' [] line (took_nothing taken) h)

pub line_broke : {L : Type 0} (answers : Answering L) (fails : Failing L) (old : State L) (script line : List ℕ) (taken taken' : Option (List ℕ)) (result : Result Ended RunFault) → FaultLine script line → IfErr result (BreaksLine line taken taken') → IfErr result (BreaksOff answers fails old script old taken taken')
line_broke answers fails old script line taken taken' (Ok ended) f h = tt
line_broke answers fails old script line taken taken' (Err x) f h = line_broke_at answers fails old script line taken taken' x f h

-- a line asks no library for anything
pub line_unasked : (n : ℕ) (line : List ℕ) (taken taken' : Option (List ℕ)) (result : Result Ended RunFault) → IfErr result (BreaksLine line taken taken') → IsLibraryBlamed n n result
line_unasked n line taken taken' (Ok ended) h = refl
line_unasked n line taken taken' (Err (r.Memory offset)) h = refl
line_unasked n line taken taken' (Err (r.Library offset)) h = absurd h
line_unasked n line taken taken' (Err r.Sink) h = refl
