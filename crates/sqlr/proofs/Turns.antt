-- The statements that tokens derive, run one behind the other as they are read.
use Rattle.std.proofs.Common.{ℕ, zero, suc, ◌≡◌, ◌<◌, ◌≤◌, ◌∙◌, ◌++◌, refl, sym, ap, subst, List, [], ◌∷◌, Option, Some, Result, Ok, Err, IfOk, IfErr, length, arith}
use Rattle.std.proofs.lemmas.List.{append-nil, append_assoc}
use Rattle.definitions.specs.Ended as ends
use Rattle.definitions.specs.Grammar as g
use Rattle.definitions.specs.Grammar.{Derives, ScriptAt, within}
use Rattle.definitions.specs.Limits.{most_levels}
use Rattle.definitions.specs.Rule.{At}
use Rattle.definitions.specs.Statement.{Statement}
use Rattle.definitions.specs.Token.{TokenKind}
use Rattle.definitions.proofs.Grammar.{statement_there}
use Rattle.definitions_execution.specs.Step as step
use Rattle.definitions_execution.specs.Step.{Answering, Failing, State}
use Rattle.lexer.specs.Meaning.{kinds_of}
use Rattle.lexer.specs.declared.token.Token.{Token}
use Rattle.sqlr.specs.declared.ended.Ended.{Ended}
use Rattle.sqlr.specs.declared.ended.Ended.TheVariants as e
use Rattle.sqlr.specs.declared.ended.RunFault.{RunFault}
use Rattle.sqlr.specs.declared.ended.RunFault.TheVariants as r
use Rattle.sqlr.specs.Scripts.{DeriveSome}
use Rattle.sqlr.specs.Sessions.{BreaksIn, IsBoth, RunsAll}
use Rattle.sqlr.proofs.Running.{ran_on, broke_on, broke_before, took_all, took_nothing}

-- ---- the end of the tokens

kind_count : (tokens : List Token) → length (kinds_of tokens) ≡ length tokens
kind_count [] = refl
kind_count (t ∷ ts) = ap suc (kind_count ts)

nothing_behind : (ts : List TokenKind) (at : ℕ) (k : TokenKind) → length ts ≤ at → At ts at k → ⊥
nothing_behind [] at k h t = cc
nothing_behind (x ∷ ts) zero k h t = omega (arith, h)
nothing_behind (x ∷ ts) (suc at) k h t = nothing_behind ts at k (omega (arith, h)) t

-- a statement is the first of those that go on from a place, and the others go on from the next one
abbrev pub IsFirst : List Token → (at next : ℕ) → Statement → Type 0
IsFirst tokens at next s =
    (ss : List Statement) → ScriptAt most_levels (kinds_of tokens) at ss → (rest : List Statement) × (ss ≡ s ∷ rest) × ScriptAt most_levels (kinds_of tokens) next rest

module _ {L : Type 0} (answers : Answering L) (tokens : List Token) where
  -- ---- up to a place

  -- of the statements that the tokens derive, those before a place are run
  abbrev pub RanTo : State L → (at : ℕ) → State L → Option (List ℕ) → Option (List ℕ) → Ended → Type 0
  RanTo old at new taken taken' ended =
      (ss : List Statement) → Derives (kinds_of tokens) ss → (front rest : List Statement) × (ss ≡ front ++ rest)
      × ScriptAt most_levels (kinds_of tokens) at rest × RunsAll answers old front new taken taken' ended

  pub one_more : (old mid new : State L) (at next : ℕ) (s : Statement) (taken taken' taken'' : Option (List ℕ)) (ended own both : Ended)
      → RanTo old at mid taken taken' ended → IsFirst tokens at next s → RunsAll answers mid (s ∷ []) new taken' taken'' own → IsBoth ended own both → RanTo old next new taken taken'' both
  one_more old mid new at next s taken taken' taken'' ended own both ran first one b ss d =
      let it = ran ss d in
      let behind = first it.1 it.3 in
      (it.0 ++ s ∷ [], behind.0, it.2 ∙ ap (λ xs. it.0 ++ xs) behind.1 ∙ sym (append_assoc it.0 (s ∷ []) behind.0), behind.2, ran_on answers old mid new it.0 (s ∷ []) taken taken' taken'' ended own both it.4 one b)

  -- ---- all of them

  no_more : (at : ℕ) (rest : List Statement) → length (kinds_of tokens) ≤ at → ScriptAt most_levels (kinds_of tokens) at rest → rest ≡ []
  no_more at rest h (g.end at' is) = refl
  no_more at rest h (g.next at' mid s more d c behind) =
      let k = statement_there (within most_levels) (kinds_of tokens) at mid s d in absurd (nothing_behind (kinds_of tokens) at k.0 h k.1)

  pub all_ran : (old new : State L) (at : ℕ) (taken taken' : Option (List ℕ)) (ended : Ended) → length tokens ≤ at → RanTo old at new taken taken' ended
      → (ss : List Statement) → Derives (kinds_of tokens) ss → RunsAll answers old ss new taken taken' ended
  all_ran old new at taken taken' ended h ran ss d =
      let it = ran ss d in
      let none = no_more at it.1 (omega (arith, h, kind_count tokens)) it.3 in
      subst (λ xs. RunsAll answers old xs new taken taken' ended) (sym (it.2 ∙ ap (λ xs. it.0 ++ xs) none ∙ append-nil it.0)) it.4

-- ---- where they break off

module _ {L : Type 0} (answers : Answering L) (fails : Failing L) (tokens : List Token) where
  -- memory is wanting to read a statement
  unread : (old : State L) (at : ℕ) (rest : List Statement) (taken : Option (List ℕ)) (offset : ℕ) → at < length (kinds_of tokens) → ScriptAt most_levels (kinds_of tokens) at rest → BreaksIn answers fails old rest old taken taken (r.Memory offset)
  unread old at rest taken offset l (g.end at' is) = absurd (omega (arith, l, is))
  unread old at rest taken offset l (g.next at' mid s more d c behind) =
      ([], [], step.undone [] more s old ends.Well refl (refl, refl, refl) (step.unchanged refl refl) refl, took_all taken taken [] (took_nothing taken))

  pub broke_reading : (old new : State L) (at : ℕ) (taken taken' : Option (List ℕ)) (ended : Ended) (offset : ℕ) → at < length tokens → RanTo answers tokens old at new taken taken' ended
      → (ss : List Statement) → Derives (kinds_of tokens) ss → BreaksIn answers fails old ss new taken taken' (r.Memory offset)
  broke_reading old new at taken taken' ended offset l ran ss d =
      let it = ran ss d in
      let broke = unread new at it.1 taken' offset (omega (arith, l, kind_count tokens)) it.3 in
      subst (λ xs. BreaksIn answers fails old xs new taken taken' (r.Memory offset)) (sym it.2) (broke_on answers fails old new new it.0 it.1 taken taken' taken' ended (r.Memory offset) it.4 broke)

  -- a statement breaks off
  pub broke_at : (old mid new : State L) (at next : ℕ) (s : Statement) (taken taken' taken'' : Option (List ℕ)) (ended : Ended) (fault : RunFault)
      → RanTo answers tokens old at mid taken taken' ended → IsFirst tokens at next s → BreaksIn answers fails mid (s ∷ []) new taken' taken'' fault
      → (ss : List Statement) → Derives (kinds_of tokens) ss → BreaksIn answers fails old ss new taken taken'' fault
  broke_at old mid new at next s taken taken' taken'' ended fault ran first broke ss d =
      let it = ran ss d in
      let behind = first it.1 it.3 in
      let rest_broke = broke_before answers fails mid new (s ∷ []) behind.0 taken' taken'' fault broke in
      subst (λ xs. BreaksIn answers fails old xs new taken taken'' fault) (sym (it.2 ∙ ap (λ xs. it.0 ++ xs) behind.1)) (broke_on answers fails old mid new it.0 (s ∷ behind.0) taken taken' taken'' ended fault it.4 rest_broke)
