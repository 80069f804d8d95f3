-- A rule moves from one list of tokens to another where they agree, up to where it ends and the token behind; and from one depth to another,
-- where few tokens between its ends open a level.
use Rattle.std.proofs.Common.{◌≡◌, ◌∙◌, refl, sym, ap, ℕ, zero, suc, ◌+◌, ◌≤◌, ◌<◌, List, [], ◌∷◌, Option, Some, None, length, arith, add-one}
use Rattle.std.specs.Prelude.{⊤, slice_get}
use Rattle.definitions.specs.Token.{TokenKind}
use Rattle.definitions.specs.Rule.{Rule, At, Never, Gives, Past, Sees, If, Reads, Then, Repeats}
use Rattle.definitions.specs.Rule as g
use Rattle.definitions.specs.Grammar.{opens, openers}
use Rattle.definitions.proofs.Alike.{Agree, Rises, never_rises, gives_rises, past_rises, sees_rises, reads_rises, then_rises, repeats_rises}

-- ---- how many of the first tokens open a level

abbrev pub opened : List TokenKind → ℕ → ℕ
opened [] n = 0
opened (t ∷ ts) zero = 0
opened (t ∷ ts) (suc n) = opens t + opened ts n

opened_none : (ts : List TokenKind) → opened ts 0 ≡ 0
opened_none [] = refl
opened_none (t ∷ ts) = refl

opened_suc : (ts : List TokenKind) (at : ℕ) (k : TokenKind) → slice_get ts at ≡ Some k → opened ts (suc at) ≡ opened ts at + opens k
opened_suc [] at k h = absurd cc
opened_suc (t ∷ ts) zero k h =
    let same : t ≡ k = cc in
    rw same (omega (arith, opened_none ts))
opened_suc (t ∷ ts) (suc at) k h = omega (arith, opened_suc ts at k h)

pub opened_next : (ts : List TokenKind) (at : ℕ) (k : TokenKind) → At ts at k → opened ts (at + 1) ≡ opened ts at + opens k
opened_next ts at k h = rw add-one (opened_suc ts at k h)

pub opened_rises : (ts : List TokenKind) (a b : ℕ) → a ≤ b → opened ts a ≤ opened ts b
opened_rises [] a b h = omega arith
opened_rises (t ∷ ts) zero b h = omega arith
opened_rises (t ∷ ts) (suc a) zero h = absurd (omega (arith, h))
opened_rises (t ∷ ts) (suc a) (suc b) h = omega (arith, opened_rises ts a b (omega (arith, h)))

pub opened_all : (ts : List TokenKind) → opened ts (length ts) ≡ openers ts
opened_all [] = refl
opened_all (t ∷ ts) = ap (λ n. opens t + n) (opened_all ts)

-- ---- budgets

-- how many tokens may open a level: any number, or at most so many
pub data Budget : Type 0 where
  Any : Budget
  AtMost : ℕ → Budget

abbrev pub Few : Budget → List TokenKind → ℕ → ℕ → Type 0
Few Any ts at to = ⊤
Few (AtMost m) ts at to = opened ts to ≤ opened ts at + m

-- what is left behind one that opens, where there may be one
abbrev pub lower : Budget → Budget
lower Any = Any
lower (AtMost zero) = AtMost zero
lower (AtMost (suc m)) = AtMost m

abbrev pub IsOpen : Budget → Type 0
IsOpen Any = ⊤
IsOpen (AtMost m) = 0 < m

few_within : (b : Budget) (ts : List TokenKind) (at mid to end : ℕ) → at ≤ mid → to ≤ end → Few b ts at end → Few b ts mid to
few_within Any ts at mid to end l k f = tt
few_within (AtMost m) ts at mid to end l k f = omega (arith, opened_rises ts at mid l, opened_rises ts to end k, f)

few_behind : (b : Budget) (ts : List TokenKind) (at to : ℕ) (k : TokenKind) → At ts at k → opens k ≡ 1 → at + 1 ≤ to → Few b ts at to → IsOpen b × Few (lower b) ts (at + 1) to
few_behind Any ts at to k h o l f = (tt, tt)
few_behind (AtMost zero) ts at to k h o l f = absurd (omega (arith, opened_next ts at k h, o, opened_rises ts (at + 1) to l, f))
few_behind (AtMost (suc m)) ts at to k h o l f = (omega arith, omega (arith, opened_next ts at k h, o, opened_rises ts (at + 1) to l, f))

-- ---- what moves

-- what the first rule reads of some tokens, the second reads of others that agree with them
abbrev pub Moves : {X : Type 0} → Budget → Rule X → Rule X → Type 0
Moves {X} b a c = (ts us : List TokenKind) (n : ℕ) → Agree ts us n → (at to : ℕ) (x : X) → to ≤ n → Few b ts at to → a ts at to x → c us at to x

pub record Moving {X : Type 0} (b : Budget) (a c : Rule X) : Type 0 where
  pub rises : Rises a
  pub moves : Moves b a c

told : {A : Type 0} (says : Option TokenKind → Option A) → says None ≡ None → (o : Option TokenKind) (z : A) → says o ≡ Some z → (k : TokenKind) × (o ≡ Some k)
told says none None z h = absurd (let e = sym none ∙ h in cc)
told says none (Some k) z h = (k, refl)

module _ (b : Budget) where
  gives_moves : {X : Type 0} (v : X) → Moves b (Gives v) (Gives v)
  gives_moves v ts us n e at to x l f (g.gives i j z h k) = g.gives _ _ _ h k

  past_moves : {X : Type 0} (kind : TokenKind) (a c : Rule X) → Rises a → Moves b a c → Moves b (Past kind a) (Past kind c)
  past_moves kind a c r m ts us n e at to x l f (g.past i j z h k) =
      let up : at + 1 ≤ to = r ts _ _ _ k in
      g.past _ _ _ (e at (omega (arith, up, l)) ∙ h) (m ts us n e (at + 1) to x l (few_within b ts at (at + 1) to to (omega arith) (omega arith) f) k)

  opening_moves : {X : Type 0} (kind : TokenKind) (a c : Rule X) → opens kind ≡ 1 → Rises a → (IsOpen b → Moves (lower b) a c) → Moves b (Past kind a) (Past kind c)
  opening_moves kind a c o r m ts us n e at to x l f (g.past i j z h k) =
      let up : at + 1 ≤ to = r ts _ _ _ k in
      let (open', few) = few_behind b ts at to kind h o up f in
      g.past _ _ _ (e at (omega (arith, up, l)) ∙ h) (m open' ts us n e (at + 1) to x l few k)

  sees_moves : {X : Type 0} (kind : TokenKind) (a c a' c' : Rule X) → Moving b a c → Moving b a' c' → Moves b (Sees kind a a') (Sees kind c c')
  sees_moves kind a c a' c' r s ts us n e at to x l f (g.sees i j z h k) =
      let up : at ≤ to = r.rises ts _ _ _ k in
      g.sees _ _ _ (e at (omega (arith, up, l)) ∙ h) (r.moves ts us n e at to x l f k)
  sees_moves kind a c a' c' r s ts us n e at to x l f (g.misses i j z h k) =
      let up : at ≤ to = s.rises ts _ _ _ k in
      g.misses _ _ _ (λ there. h (sym (e at (omega (arith, up, l))) ∙ there)) (s.moves ts us n e at to x l f k)

  reads_moves : {A X : Type 0} (says : Option TokenKind → Option A) (a c : A → Rule X) (a' c' : Rule X) → ((x : A) → Moving b (a x) (c x)) → Moving b a' c' → Moves b (Reads says a a') (Reads says c c')
  reads_moves says a c a' c' r s ts us n e at to x l f (g.reads i j z w h k) =
      let up : at + 1 ≤ to = (r z).rises ts _ _ _ k in
      g.reads _ _ z _ (ap says (e at (omega (arith, up, l))) ∙ h) ((r z).moves ts us n e (at + 1) to x l (few_within b ts at (at + 1) to to (omega arith) (omega arith) f) k)
  reads_moves says a c a' c' r s ts us n e at to x l f (g.reads_not i j w h k) =
      let up : at ≤ to = s.rises ts _ _ _ k in
      g.reads_not _ _ _ (ap says (e at (omega (arith, up, l))) ∙ h) (s.moves ts us n e at to x l f k)

  opens_reads_moves : {A X : Type 0} (says : Option TokenKind → Option A) (a c : A → Rule X) (a' c' : Rule X) → says None ≡ None → ((k : TokenKind) (z : A) → says (Some k) ≡ Some z → opens k ≡ 1)
      → ((x : A) → Rises (a x)) → ((x : A) → IsOpen b → Moving (lower b) (a x) (c x)) → Moving b a' c' → Moves b (Reads says a a') (Reads says c c')
  opens_reads_moves says a c a' c' none opening r m s ts us n e at to x l f (g.reads i j z w h k) =
      let up : at + 1 ≤ to = r z ts _ _ _ k in
      let (own, is) = told says none (slice_get ts at) z h in
      let (open', few) = few_behind b ts at to own is (opening own z (sym (ap says is) ∙ h)) up f in
      g.reads _ _ z _ (ap says (e at (omega (arith, up, l))) ∙ h) ((m z open').moves ts us n e (at + 1) to x l few k)
  opens_reads_moves says a c a' c' none opening r m s ts us n e at to x l f (g.reads_not i j w h k) =
      let up : at ≤ to = s.rises ts _ _ _ k in
      g.reads_not _ _ _ (ap says (e at (omega (arith, up, l))) ∙ h) (s.moves ts us n e at to x l f k)

  then_moves : {A X : Type 0} (a c : Rule A) (a' c' : A → Rule X) → Moving b a c → ((x : A) → Moving b (a' x) (c' x)) → Moves b (Then a a') (Then c c')
  then_moves a c a' c' r s ts us n e at to x l f (g.then i m j z w h k) =
      let first : at ≤ m = r.rises ts _ _ _ h in
      let later : m ≤ to = (s z).rises ts _ _ _ k in
      g.then _ m _ z _ (r.moves ts us n e at m z (omega (arith, later, l)) (few_within b ts at at m to (omega arith) later f) h)
      ((s z).moves ts us n e m to x l (few_within b ts at m to to first (omega arith) f) k)

  repeats_moves : {A X : Type 0} (says : Option TokenKind → Option A) (a c : A → Rule X) → ((x : A) → Moving b (a x) (c x)) → Moves b (Repeats says a) (Repeats says c)
  repeats_moves says a c r ts us n e at to x l f (g.over i j h q) = g.over _ _ (ap says (e at (omega (arith, l, q))) ∙ h) q
  repeats_moves says a c r ts us n e at to x l f (g.more i m j z w ws h k o) =
      let first : at + 1 ≤ m = (r z).rises ts _ _ _ k in
      let later : m ≤ to = repeats_rises says a (λ y. (r y).rises) ts _ _ _ o in
      g.more _ m _ z _ _ (ap says (e at (omega (arith, first, later, l))) ∙ h)
      ((r z).moves ts us n e (at + 1) m w (omega (arith, later, l)) (few_within b ts at (at + 1) m to (omega arith) later f) k)
      (repeats_moves says a c r ts us n e m to ws l (few_within b ts at m to to (omega (arith, first)) (omega arith) f) o)

pub never_moving : {b : Budget} {X : Type 0} (rule : Rule X) → Moving b Never rule
never_moving {b = b} rule = record { rises = never_rises; moves = λ ts us n e at to x l f h. elim h [ ] }

pub gives_moving : {b : Budget} {X : Type 0} (v : X) → Moving b (Gives v) (Gives v)
gives_moving {b = b} v = record { rises = gives_rises v; moves = gives_moves b v }

pub past_moving : {b : Budget} {X : Type 0} {a c : Rule X} (kind : TokenKind) → Moving b a c → Moving b (Past kind a) (Past kind c)
past_moving {b = b} {a = a} {c = c} kind r = record { rises = past_rises kind a r.rises; moves = past_moves b kind a c r.rises r.moves }

-- behind a token that opens a level
pub opening_moving : {b : Budget} {X : Type 0} {a c : Rule X} (kind : TokenKind) → opens kind ≡ 1 → Rises a → (IsOpen b → Moving (lower b) a c) → Moving b (Past kind a) (Past kind c)
opening_moving {b = b} {a = a} {c = c} kind o r m = record { rises = past_rises kind a r; moves = opening_moves b kind a c o r (λ h. (m h).moves) }

pub sees_moving : {b : Budget} {X : Type 0} {a c a' c' : Rule X} (kind : TokenKind) → Moving b a c → Moving b a' c' → Moving b (Sees kind a a') (Sees kind c c')
sees_moving {b = b} {a = a} {c = c} {a' = a'} {c' = c'} kind r s = record { rises = sees_rises kind a a' r.rises s.rises; moves = sees_moves b kind a c a' c' r s }

pub if_moving : {b : Budget} {X : Type 0} {a c a' c' : Rule X} (kind : TokenKind) → Moving b a c → Moving b a' c' → Moving b (If kind a a') (If kind c c')
if_moving {b = b} kind r s = sees_moving kind (past_moving kind r) s

pub reads_moving : {b : Budget} {A X : Type 0} {a c : A → Rule X} {a' c' : Rule X} (says : Option TokenKind → Option A) → ((x : A) → Moving b (a x) (c x)) → Moving b a' c' → Moving b (Reads says a a') (Reads says c c')
reads_moving {b = b} {a = a} {c = c} {a' = a'} {c' = c'} says r s = record { rises = reads_rises says a a' (λ x. (r x).rises) s.rises; moves = reads_moves b says a c a' c' r s }

-- the token that is read opens a level
pub opens_reads_moving : {b : Budget} {A X : Type 0} {a c : A → Rule X} {a' c' : Rule X} (says : Option TokenKind → Option A) → says None ≡ None → ((k : TokenKind) (z : A) → says (Some k) ≡ Some z → opens k ≡ 1)
    → ((x : A) → Rises (a x)) → ((x : A) → IsOpen b → Moving (lower b) (a x) (c x)) → Moving b a' c' → Moving b (Reads says a a') (Reads says c c')
opens_reads_moving {b = b} {a = a} {c = c} {a' = a'} {c' = c'} says none opening r m s =
    record { rises = reads_rises says a a' r s.rises; moves = opens_reads_moves b says a c a' c' none opening r m s }

pub then_moving : {b : Budget} {A X : Type 0} {a c : Rule A} {a' c' : A → Rule X} → Moving b a c → ((x : A) → Moving b (a' x) (c' x)) → Moving b (Then a a') (Then c c')
then_moving {b = b} {a = a} {c = c} {a' = a'} {c' = c'} r s = record { rises = then_rises a a' r.rises (λ x. (s x).rises); moves = then_moves b a c a' c' r s }

pub repeats_moving : {b : Budget} {A X : Type 0} {a c : A → Rule X} (says : Option TokenKind → Option A) → ((x : A) → Moving b (a x) (c x)) → Moving b (Repeats says a) (Repeats says c)
repeats_moving {b = b} {a = a} {c = c} says r = record { rises = repeats_rises says a (λ x. (r x).rises); moves = repeats_moves b says a c r }
