-- A text that is a script at some depth is one within 64 levels, or more than 64 of its tokens open one.
use Rattle.std.proofs.Common.{◌≡◌, refl, sym, ℕ, zero, suc, ◌+◌, ◌≤◌, ◌<◌, List, [], ◌∷◌, ◌++◌, length, arith, length-append}
use Rattle.std.specs.Prelude.{slice_get}
use Rattle.std.proofs.lemmas.Option.{slice_get_within}
use Rattle.definitions.specs.Token.{TokenKind}
use Rattle.definitions.specs.Statement.{Statement}
use Rattle.definitions.specs.Grammar as r
use Rattle.definitions.specs.Grammar.{within, StatementOf, ScriptAt}
use Rattle.definitions.proofs.Alike.{Agree}
use Rattle.definitions.proofs.Grammar.{within_alike, statement_alike, statement_there, agree_self, next_script}
use Rattle.definitions.proofs.Moving.{opened, opened_rises}
use Rattle.definitions.proofs.Levels.{few_levels, same_levels, statement_moving}

-- within as many levels as tokens open
pub at_depth : (n m : ℕ) (ts : List TokenKind) (at : ℕ) (ss : List Statement) → ScriptAt n ts at ss → opened ts (length ts) ≤ opened ts at + m → ScriptAt m ts at ss
at_depth n m ts at ss (r.end a e) few = r.end _ e
at_depth n m ts at ss (r.next a mid s rest own semicolon more) few =
    let moving = statement_moving (few_levels n m) in
    let up : at ≤ mid = moving.rises ts _ _ _ own in
    let there : mid < length ts = slice_get_within ts mid _ semicolon in
    let before : opened ts mid ≤ opened ts (length ts) = opened_rises ts mid (length ts) (omega (arith, there)) in
    let behind : opened ts at ≤ opened ts (mid + 1) = opened_rises ts at (mid + 1) (omega (arith, up)) in
    r.next _ mid s rest (moving.moves ts ts mid (agree_self ts mid) _ _ _ (omega arith) (omega (arith, few, before)) own) semicolon
    (at_depth n m ts (mid + 1) rest more (omega (arith, few, behind)))

-- ---- with more tokens behind

kept_in_front : (ts more : List TokenKind) (k : ℕ) → k < length ts → slice_get (ts ++ more) k ≡ slice_get ts k
kept_in_front [] more k l = absurd (omega (arith, l))
kept_in_front (t ∷ ts) more zero l = refl
kept_in_front (t ∷ ts) more (suc k) l = kept_in_front ts more k (omega (arith, l))

brought_back : (n m : ℕ) (ts more : List TokenKind) (at : ℕ) (ss other : List Statement) → ScriptAt n ts at ss → ScriptAt m (ts ++ more) at other → ScriptAt m ts at ss
brought_back n m ts more at ss other (r.end a e) d = r.end _ e
brought_back n m ts more at ss other (r.next a mid s rest own semicolon next) (r.end a' e') =
    let (k, there) = statement_there _ ts _ _ _ own in
    absurd (omega (arith, slice_get_within ts at k there, e', length-append ts more))
brought_back n m ts more at ss other (r.next a mid s rest own semicolon next) (r.next a' mid' s' rest' own' semicolon' next') =
    let there : mid < length ts = slice_get_within ts mid _ semicolon in
    let agree : Agree ts (ts ++ more) mid = λ k l. kept_in_front ts more k (omega (arith, l, there)) in
    let back : Agree (ts ++ more) ts mid = λ k l. sym (agree k l) in
    let same = (statement_alike (within_alike n m)).same ts (ts ++ more) mid agree _ _ _ _ _ (omega arith) own own' in
    let here : StatementOf (within m) (ts ++ more) at mid s = ended_there (StatementOf (within m)) (ts ++ more) at mid mid' s s' same.0 same.1 own' in
    r.next _ mid s rest ((statement_moving (same_levels m)).moves (ts ++ more) ts mid back _ _ _ (omega arith) tt here) semicolon
    (brought_back n m ts more (mid + 1) rest rest' next (next_script m (ts ++ more) mid mid' rest' same.0 next'))
  where
    ended_there : (rule : List TokenKind → ℕ → ℕ → Statement → Type 0) (us : List TokenKind) (i j j' : ℕ) (x x' : Statement) → j ≡ j' → x ≡ x' → rule us i j' x' → rule us i j x
    ended_there rule us i j j' x x' e f h = rw (e, f) h

pub script_in_front : (n m : ℕ) (ts more : List TokenKind) (ss other : List Statement) → ScriptAt n ts 0 ss → ScriptAt m (ts ++ more) 0 other → ScriptAt m ts 0 ss
script_in_front n m ts more ss other d d' = brought_back n m ts more 0 ss other d d'
