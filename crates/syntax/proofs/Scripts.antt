-- Scripts, statement by statement; and where one stops, the text has a syntax fault.
use Rattle.std.proofs.Common.{◌≡◌, ◌∙◌, refl, sym, ap, subst, ℕ, zero, suc, ◌+◌, ◌-◌, ◌<◌, ◌≤◌, length, take, List, [], ◌∷◌, ◌++◌, Option, Some, None, Result, Ok, Err, arith, add-one, append_assoc, append-nil}
use Rattle.std.specs.Prelude.{slice_get}
use Rattle.std.specs.Result.{result_and}
use Rattle.definitions.specs.Limits.{most_levels}
use Rattle.definitions.specs.Refusal as refusal
use Rattle.definitions.specs.Token.{TokenKind, Mark, Semicolon}
use Rattle.definitions.specs.Statement.{Statement}
use Rattle.definitions.specs.Rule.{At, NotAt}
use Rattle.definitions.specs.Grammar as g
use Rattle.definitions.specs.Grammar.{within}
use Rattle.definitions.proofs.Grammar.{statement_alike, within_alike, no_token_there, agree_self}
use Rattle.lexer.specs.declared.token.Token.{Token}
use Rattle.lexer.specs.Meaning.{token_of, tokens_of}
use Rattle.syntax_cursor.specs.declared.stop.ParseStop.{ParseStop}
use Rattle.syntax_cursor.specs.declared.stop.ParseStop.TheVariants as s
use Rattle.syntax.specs.declared.fault.SyntaxFault.{SyntaxFault}
use Rattle.syntax.specs.declared.fault.SyntaxFault.TheVariants as f
use Rattle.lexer.specs.Meaning.{kinds_of}
use Rattle.parse_tree.specs.Trees.{statement_of}
use Rattle.parse_tree.specs.declared.statement.Statement.{Statement as Tree}
use Rattle.syntax_cursor.specs.Reading.{Place, Expects, IsNext, Agree, Nowhere, Stops, Outcome, viewed, opened}
use Rattle.syntax.specs.Reading.{ScriptIn, ParsesScript, ParsesStatement, IsStatement, SkimsScript, IsSyntaxFault, TellsStop, start_or}
use Rattle.syntax_cursor.specs.Reading as r
use Rattle.syntax_cursor.proofs.Stopping.{stops_as}

agrees : (xs more : List TokenKind) (n k : ℕ) (y : TokenKind) → k ≤ n → slice_get xs n ≡ Some y → slice_get (take (suc n) xs ++ more) k ≡ slice_get xs k
agrees [] more n k y l h = absurd cc
agrees (x ∷ xs) more n zero y l h = refl
agrees (x ∷ xs) more zero (suc k) y l h = absurd (omega (arith, l))
agrees (x ∷ xs) more (suc n) (suc k) y l h = agrees xs more n k y (omega (arith, l)) h

got : (ts : List Token) (n : ℕ) (t : Token) → slice_get ts n ≡ Some t → slice_get (tokens_of ts) n ≡ Some (token_of t)
got [] n t e = absurd cc
got (x ∷ xs) zero t e = let h : t ≡ x = cc in ap (λ z. Some (token_of z)) (sym h)
got (x ∷ xs) (suc n) t e = got xs n t e

got_kind : (ts : List Token) (n : ℕ) (t : Token) → slice_get ts n ≡ Some t → (k : TokenKind) × (slice_get (kinds_of ts) n ≡ Some k)
got_kind [] n t e = absurd cc
got_kind (x ∷ xs) zero t e = (_, refl)
got_kind (x ∷ xs) (suc n) t e = got_kind xs n t e

got_none : (ts : List Token) (n : ℕ) → slice_get ts n ≡ None → slice_get (kinds_of ts) n ≡ None
got_none [] n e = refl
got_none (x ∷ xs) zero e = absurd cc
got_none (x ∷ xs) (suc n) e = got_none xs n e

-- what is read nowhere where the tokens agree is begun by none
begins_none : (m : ℕ) (ts : List TokenKind) (n : ℕ) (k : TokenKind) → slice_get ts n ≡ Some k → ((us : List TokenKind) → Agree ts us n → Nowhere (ScriptIn m) us 0) → g.BeginsNone m (take (n + 1) ts)
begins_none m ts n k e nw more xs d =
    let us = take (n + 1) ts ++ more in nw us (λ j l. rw add-one (agrees ts more n j k l e)) (length us) xs (refl, d)

-- the fault of a stop
unexpected : (ts : List Token) (end n : ℕ) (o : Option Token) → slice_get ts n ≡ o → ((us : List TokenKind) → Agree (kinds_of ts) us n → (m : ℕ) → Nowhere (ScriptIn m) us 0) → g.SyntaxFails (tokens_of ts) end refusal.Unexpected (start_or end o)
unexpected ts end n (Some t) e nw =
    let k = got_kind ts n t e in
    g.at_token refusal.Unexpected _ n (token_of t) (got ts n t e) refl (λ m. begins_none m (kinds_of ts) n k.0 k.1 (λ us a. nw us a m))
unexpected ts end n None e nw = g.at_end refusal.Unexpected _ refl refl (λ m xs d. nw (kinds_of ts) (λ j l. refl) m (length (kinds_of ts)) xs (refl, d))

too_deep : (ts : List Token) (end n : ℕ) (o : Option Token) (k : TokenKind) → slice_get ts n ≡ o → slice_get (kinds_of ts) n ≡ Some k → opened (kinds_of ts) 0 + most_levels < opened (kinds_of ts) (n + 1)
    → ((us : List TokenKind) → Agree (kinds_of ts) us n → Nowhere (ScriptIn most_levels) us 0) → g.SyntaxFails (tokens_of ts) end refusal.TooDeep (start_or end o)
too_deep ts end n (Some t) k e h c nw = g.at_token refusal.TooDeep _ n (token_of t) (got ts n t e) refl (omega (arith, c), begins_none most_levels (kinds_of ts) n k h nw)
too_deep ts end n None k e h c nw = absurd (let q = sym (got_none ts n e) ∙ h in cc)

moved : (tokens : _) (end at at' : ℕ) (x : refusal.Refusal) → at' ≡ at → g.SyntaxFails tokens end x at → g.SyntaxFails tokens end x at'
moved tokens end at at' x e h = rw e h

pub script_fails : (ts : List Token) (end : ℕ) (stop : ParseStop) (fault : SyntaxFault) → Stops ScriptIn (kinds_of ts) most_levels most_levels 0 stop → TellsStop ts end stop fault → IsSyntaxFault (tokens_of ts) end fault
script_fails ts end (s.Token n) (f.Unexpected u) (r.at_token n' l nw) e = moved _ _ _ _ _ e (unexpected ts end n (slice_get ts n) refl nw)
script_fails ts end (s.Deep n) (f.TooDeep offset) (r.too_deep n' k l y c nw) e = moved _ _ _ _ _ e (too_deep ts end n (slice_get ts n) k refl y c nw)
script_fails ts end s.Memory (f.Memory offset) r.for_memory e = tt
script_fails ts end (s.Token n) (f.TooDeep offset) h e = absurd e
script_fails ts end (s.Token n) (f.Memory offset) h e = absurd e
script_fails ts end (s.Deep n) (f.Unexpected u) h e = absurd e
script_fails ts end (s.Deep n) (f.Memory offset) h e = absurd e
script_fails ts end s.Memory (f.Unexpected u) h e = absurd e
script_fails ts end s.Memory (f.TooDeep offset) h e = absurd e

-- ---- statement by statement

next_in : (m : ℕ) (us : List TokenKind) (i j to : ℕ) (xs : List Statement) → i ≡ j → g.ScriptAt m us j xs → g.ScriptAt m us i xs
next_in m us i j to xs e d = rw e d

there : (ts us : List TokenKind) (n at : ℕ) (k : TokenKind) → Agree ts us n → at ≤ n → At ts at k → At us at k
there ts us n at k a l h = a at l ∙ h

-- where the statement at the place of a token is read nowhere, the script is
pub nowhere_statement : (ts us : List TokenKind) (n at m : ℕ) (k : TokenKind) → Agree ts us n → at ≤ n → At ts at k → Nowhere (g.StatementOf (within m)) us at → Nowhere (ScriptIn m) us at
nowhere_statement ts us n at m k a l h nw to xs (e, g.end p q) = absurd (no_token_there us _ k q (there ts us n _ k a l h))
nowhere_statement ts us n at m k a l h nw to xs (e, g.next p i x rest d c r) = nw _ _ d

-- where no semicolon stands behind it, or the script behind that is read nowhere
pub nowhere_semicolon : (ts us : List TokenKind) (n at end l m : ℕ) (k : TokenKind) (x : Statement) → Agree ts us n → at ≤ n → end ≤ n → At ts at k → g.StatementOf (within l) ts at end x → NotAt ts end (Mark Semicolon) → Nowhere (ScriptIn m) us at
nowhere_semicolon ts us n at end l m k x a h i t d gone to xs (e, g.end p q) = absurd (no_token_there us _ k q (there ts us n _ k a h t))
nowhere_semicolon ts us n at end l m k x a h i t d gone to xs (e, g.next p j y rest f c r) =
    let q = (statement_alike (within_alike l m)).same ts us n a _ _ _ _ _ i d f in gone (sym (a end i) ∙ at_place us j end q.0 c)
  where
    at_place : (us : List TokenKind) (j end : ℕ) → end ≡ j → At us j (Mark Semicolon) → At us end (Mark Semicolon)
    at_place us j end e c = rw e c

pub nowhere_script : (ts us : List TokenKind) (n at end p l m : ℕ) (k : TokenKind) (x : Statement) → Agree ts us n → at ≤ n → end ≤ n → p ≡ end + 1 → At ts at k → g.StatementOf (within l) ts at end x → Nowhere (ScriptIn m) us p → Nowhere (ScriptIn m) us at
nowhere_script ts us n at end p l m k x a h i b t d nw to xs (e, g.end p' q) = absurd (no_token_there us _ k q (there ts us n _ k a h t))
nowhere_script ts us n at end p l m k x a h i b t d nw to xs (e, g.next p' j y rest f c r) =
    let q = (statement_alike (within_alike l m)).same ts us n a _ _ _ _ _ i d f in nw to rest (e, next_in m us p (j + 1) to rest (b ∙ ap (λ z. z + 1) q.0) r)

-- ---- from place to place

-- the statements so far, and behind them whatever the rest comes to
abbrev pub Scripts : (p q : Place) → List Statement → Type 0
Scripts p q xs = (q.tokens ≡ p.tokens) × ((o : Result (List Statement) ParseStop) → ParsesScript q o → ParsesScript p (viewed (λ ys. xs ++ ys) o))

pub script_begins : (p : Place) → Scripts p p []
script_begins p = (refl, λ o rest. same o rest)
  where
    same : (o : Result (List Statement) ParseStop) → ParsesScript p o → ParsesScript p (viewed (λ ys. [] ++ ys) o)
    same (Ok ys) h = h
    same (Err stop) h = h

kind_there : (ts : List TokenKind) (at : ℕ) → at < length ts → (k : TokenKind) × At ts at k
kind_there [] at l = absurd (omega (arith, l))
kind_there (t ∷ ts) zero l = (t, refl)
kind_there (t ∷ ts) (suc at) l = kind_there ts at (omega (arith, l))

-- the statement at a place is stopped
pub statement_fails : (p q : Place) (stop : ParseStop) → p.at < length p.tokens → Outcome (λ m. g.StatementOf (within m)) most_levels most_levels p q (Err stop) → ParsesScript p (Err stop)
statement_fails p q stop l (r.stopped x st) =
    let k = kind_there p.tokens p.at l in
    stops_script (λ m us n h ag nw. nowhere_statement p.tokens us n p.at m k.0 ag h k.1 nw) stop st
  where
    stops_script : ((m : ℕ) (us : List TokenKind) (n : ℕ) → p.at ≤ n → Agree p.tokens us n → Nowhere (g.StatementOf (within m)) us p.at → Nowhere (ScriptIn m) us p.at) → (stop : ParseStop) → Stops (λ m. g.StatementOf (within m)) p.tokens most_levels most_levels p.at stop → Stops ScriptIn p.tokens most_levels most_levels p.at stop
    stops_script needs (s.Token n) (r.at_token n' h nw) = r.at_token n h (λ us ag m. needs m us n h ag (nw us ag m))
    stops_script needs (s.Deep n) (r.too_deep n' k h y c nw) = r.too_deep n k h y c (λ us ag. needs most_levels us n h ag (nw us ag))
    stops_script needs s.Memory r.for_memory = r.for_memory

-- no semicolon stands behind it
pub semicolon_fails : (p q t : Place) (x : Statement) (stop : ParseStop) → p.at < length p.tokens → Outcome (λ m. g.StatementOf (within m)) most_levels most_levels p q (Ok x) → NotAt q.tokens q.at (Mark Semicolon) × (stop ≡ s.Token q.at) → ParsesScript p (Err stop)
semicolon_fails p q t x stop l (r.read y e d) h =
    let k = kind_there p.tokens p.at l in
    let rises : p.at ≤ q.at = (statement_alike (within_alike most_levels most_levels)).rises p.tokens p.at q.at x d in
    let gone : NotAt p.tokens q.at (Mark Semicolon) = subst (λ ts. NotAt ts q.at (Mark Semicolon)) e h.0 in
    subst (λ z. ParsesScript p (Err z)) (sym h.1) (r.at_token q.at rises (λ us ag m. nowhere_semicolon p.tokens us q.at p.at q.at most_levels m k.0 x ag rises (omega arith) k.1 d gone))

-- a statement with its semicolon
pub statement_ended : (p q t : Place) (x : Statement) → Outcome (λ m. g.StatementOf (within m)) most_levels most_levels p q (Ok x) → At q.tokens q.at (Mark Semicolon) × IsNext q t → IsStatement p t x
statement_ended p q t x (r.read y e d) at = record {
  tokens = at.1.tokens ∙ e;
  mid = q.at;
  reads = d;
  semicolon = subst (λ ts. At ts q.at (Mark Semicolon)) e at.0;
  next = at.1.at;
}

pub statement_closed : (p q t : Place) (x : Tree) (symbol : Result Unit ParseStop) → p.at < length p.tokens → Outcome (λ m. g.StatementOf (within m)) most_levels most_levels p q (Ok (statement_of x)) → Expects (Mark Semicolon) q t symbol
    → ParsesStatement p t (viewed statement_of (result_and symbol (Ok x)))
statement_closed p q t x (Ok done) l out at = statement_ended p q t (statement_of x) out at
statement_closed p q t x (Err stop) l out at = semicolon_fails p q t (statement_of x) stop l out at

-- and the script behind it
next_script : (p t : Place) (x : Statement) → p.at < length p.tokens → IsStatement p t x → (o : Result (List Statement) ParseStop) → ParsesScript t o → ParsesScript p (viewed (λ ys. x ∷ ys) o)
next_script p t x l s (Ok ys) rest =
    let d₁ : g.ScriptAt most_levels p.tokens (s.mid + 1) ys = subst (λ i. g.ScriptAt most_levels p.tokens i ys) s.next (subst (λ ts. g.ScriptAt most_levels ts t.at ys) s.tokens rest) in
    g.next p.at s.mid x ys s.reads s.semicolon d₁
next_script p t x l s (Err stop) rest =
    let k = kind_there p.tokens p.at l in
    let rises : p.at ≤ s.mid = (statement_alike (within_alike most_levels most_levels)).rises p.tokens p.at s.mid x s.reads in
    stops_as ScriptIn ScriptIn p.tokens most_levels most_levels p.at t.at stop (omega (arith, rises, s.next))
    (λ m us n h ag nw. nowhere_script p.tokens us n p.at s.mid t.at most_levels m k.0 x ag (omega (arith, h, rises, s.next)) (omega (arith, h, s.next)) s.next k.1 s.reads nw)
    (subst (λ ts. Stops ScriptIn ts most_levels most_levels t.at stop) s.tokens rest)

assoc : (xs : List Statement) (x : Statement) (o : Result (List Statement) ParseStop) → viewed (λ ys. xs ++ ys) (viewed (λ ys. x ∷ ys) o) ≡ viewed (λ ys. (xs ++ x ∷ []) ++ ys) o
assoc xs x (Ok ys) = ap Ok (sym (append_assoc xs (x ∷ []) ys))
assoc xs x (Err stop) = refl

pub script_goes_on : (p q t : Place) (xs : List Statement) (x : Statement) → Scripts p q xs → q.at < length q.tokens → IsStatement q t x → Scripts p t (xs ++ x ∷ [])
script_goes_on p q t xs x inv l s =
    (s.tokens ∙ inv.0, λ o rest. subst (λ z. ParsesScript p z) (assoc xs x o) (inv.1 (viewed (λ ys. x ∷ ys) o) (next_script q t x l s o rest)))

pub script_ends : (p q : Place) (xs : List Statement) → Scripts p q xs → q.at ≡ length q.tokens → ParsesScript p (Ok xs)
script_ends p q xs inv e = subst (λ zs. ParsesScript p (Ok zs)) (append-nil xs) (inv.1 (Ok []) (g.end q.at e))

-- fewer tokens are left behind a statement
pub fewer : (q t : Place) (x : Statement) → q.at < length q.tokens → IsStatement q t x → length t.tokens - t.at < length q.tokens - q.at
fewer q t x l s =
    let rises : q.at ≤ s.mid = (statement_alike (within_alike most_levels most_levels)).rises q.tokens q.at s.mid x s.reads in
    let n : length t.tokens ≡ length q.tokens = ap length s.tokens in
    omega (arith, rises, n, s.next, l)

-- where a statement of the rest fails, the script does
pub script_fails_at : (p q : Place) (xs : List Statement) (stop : ParseStop) → Scripts p q xs → ParsesScript q (Err stop) → ParsesScript p (Err stop)
script_fails_at p q xs stop inv h = inv.1 (Err stop) h

pub answered : {A : Type 0} (p : Place) (f : A → List Statement) (result : Result A ParseStop) (stop : ParseStop) → result ≡ Err stop → ParsesScript p (Err stop) → ParsesScript p (viewed f result)
answered p f result stop e h = subst (λ x. ParsesScript p (viewed f x)) (sym e) h

pub statement_answered : {A : Type 0} (p q : Place) (f : A → Statement) (result : Result A ParseStop) (stop : ParseStop) → result ≡ Err stop → ParsesScript p (Err stop) → ParsesStatement p q (viewed f result)
statement_answered p q f result stop e h = subst (λ x. ParsesStatement p q (viewed f x)) (sym e) h

pub skim_answered : (p : Place) (result : Result Unit ParseStop) (stop : ParseStop) → result ≡ Err stop → ParsesScript p (Err stop) → SkimsScript p result
skim_answered p result stop e h = subst (SkimsScript p) (sym e) h

pub for_memory : (p : Place) (stop : ParseStop) → stop ≡ s.Memory → ParsesScript p (Err stop)
for_memory p stop e = subst (λ x. ParsesScript p (Err x)) (sym e) r.for_memory

-- the same where no statement is kept
abbrev pub Skimmed : (p q : Place) → Type 0
Skimmed p q = (xs : List Statement) × Scripts p q xs

-- ---- one statement of a script

pub kind_count : (tokens : List Token) → length (kinds_of tokens) ≡ length tokens
kind_count [] = refl
kind_count (t ∷ ts) = ap suc (kind_count ts)

-- where a script goes on, only memory is wanting
pub only_memory : (ts : List TokenKind) (at : ℕ) (stop : ParseStop) (ss : List Statement) → g.ScriptAt most_levels ts at ss → Stops ScriptIn ts most_levels most_levels at stop → stop ≡ s.Memory
only_memory ts at (s.Token n) ss d (r.at_token n' l nw) = absurd (nw ts (agree_self ts n) most_levels (length ts) ss (refl, d))
only_memory ts at (s.Deep n) ss d (r.too_deep n' k l y c nw) = absurd (nw ts (agree_self ts n) (length ts) ss (refl, d))
only_memory ts at s.Memory ss d r.for_memory = refl

pub ends_behind : (p q : Place) (x : Statement) → IsStatement p q x → p.at < q.at
ends_behind p q x s =
    let rises : p.at ≤ s.mid = (statement_alike (within_alike most_levels most_levels)).rises p.tokens p.at s.mid x s.reads in
    omega (arith, rises, s.next)

-- a statement that stands at a place is the first of those that do
pub first_statement : (p q : Place) (ts : List TokenKind) (at : ℕ) (x : Statement) → p.tokens ≡ ts → p.at ≡ at → at < length ts → IsStatement p q x → (ss : List Statement) → g.ScriptAt most_levels ts at ss
    → (rest : List Statement) × (ss ≡ x ∷ rest) × g.ScriptAt most_levels ts q.at rest
first_statement p q ts at x e f l s ss (g.end at' h) = absurd (omega (arith, l, h))
first_statement p q ts at x e f l s ss (g.next at' mid y rest d c behind) =
    let own : g.StatementOf (within most_levels) ts at s.mid x = subst (λ i. g.StatementOf (within most_levels) ts i s.mid x) f (subst (λ us. g.StatementOf (within most_levels) us p.at s.mid x) e s.reads) in
    let q' = (statement_alike (within_alike most_levels most_levels)).same ts ts s.mid (agree_self ts s.mid) at s.mid mid x y (omega arith) own d in
    (rest, ap (λ z. z ∷ rest) (sym q'.1), next_in most_levels ts q.at (mid + 1) (length ts) rest (s.next ∙ ap (λ z. z + 1) q'.0) behind)
