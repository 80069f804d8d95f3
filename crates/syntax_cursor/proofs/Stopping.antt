-- Where a part of a rule stops, the rule stops.
use Rattle.std.proofs.Common.{◌≡◌, ◌∙◌, refl, sym, ap, ℕ, zero, suc, ◌+◌, ◌≤◌, List, [], ◌∷◌, Option, Some, None, arith}
use Rattle.std.specs.Prelude.{slice_get}
use Rattle.definitions.specs.Token.{TokenKind}
use Rattle.definitions.specs.Rule.{Rule, At, NotAt, Never, Gives, Past, Sees, Reads, Then, Repeats}
use Rattle.definitions.specs.Rule as g
use Rattle.definitions.specs.Grammar.{opens}
use Rattle.definitions.proofs.Alike.{Alike, moved}
use Rattle.syntax_cursor.specs.declared.stop.ParseStop.{ParseStop}
use Rattle.syntax_cursor.specs.Reading.{Agree, Nowhere, Stops, opened}
use Rattle.syntax_cursor.specs.Reading as r

-- ---- counting the tokens that can open a level

pub opened_rises : (ts : List TokenKind) (a b : ℕ) → a ≤ b → opened ts a ≤ opened ts b
opened_rises [] zero b h = omega arith
opened_rises [] (suc a) zero h = absurd (omega (arith, h))
opened_rises [] (suc a) (suc b) h = omega arith
opened_rises (t ∷ ts) zero b h = omega arith
opened_rises (t ∷ ts) (suc a) (suc b) h = omega (arith, opened_rises ts a b (omega (arith, h)))
opened_rises (t ∷ ts) (suc a) zero h = absurd (omega (arith, h))

next_is : (a : ℕ) → suc a + 1 ≡ suc (a + 1)
next_is a = omega arith

pub opened_by : (ts : List TokenKind) (at : ℕ) (k : TokenKind) → At ts at k → opens k ≡ 1 → opened ts (at + 1) ≡ opened ts at + 1
opened_by [] at k h e = absurd cc
opened_by (t ∷ ts) zero k h e = let f : t ≡ k = cc in let q : opens t ≡ 1 = rw f e in omega (arith, q)
opened_by (t ∷ ts) (suc at) k h e = rw (next_is at) (let q = opened_by ts at k h e in omega (arith, q))

taken : {A X : Type 0} (b : A → Rule X) (us : List TokenKind) (i j : ℕ) (z z' : A) (y : X) → z ≡ z' → b z' us i j y → b z us i j y
taken b us i j z z' y e k = rw e k

one_of : {A : Type 0} (o p : Option A) (x y : A) → o ≡ p → o ≡ Some x → p ≡ Some y → x ≡ y
one_of o p x y e h k = cc

none_of : {A : Type 0} (o p : Option A) (x : A) → o ≡ p → o ≡ Some x → p ≡ None → ⊥
none_of o p x e h k = cc

goes_on : {A X : Type 0} (says : Option TokenKind → Option A) (b : A → Rule X) (us : List TokenKind) (i i' j : ℕ) (ys : List X) → i ≡ i' → Repeats says b us i' j ys → Repeats says b us i j ys
goes_on says b us i i' j ys e k = rw e k

moved_to : {X : Type 0} (a : Rule X) (us : List TokenKind) (p q j : ℕ) (y : X) → p ≡ q → a us q j y → a us p j y
moved_to a us p q j y e d = rw e d

-- ---- what a rule does not read: the rule is put together of such as read nothing

pub nowhere_past : {X : Type 0} {k : TokenKind} {a : Rule X} (us : List TokenKind) (at p : ℕ) → p ≡ at + 1 → Nowhere a us p → Nowhere (Past k a) us at
nowhere_past {a = a} us at p e nw to x (g.past i j y h d) = nw j y (moved_to a us p (i + 1) j y e d)

pub nowhere_sees : {X : Type 0} {k : TokenKind} {a c : Rule X} (ts us : List TokenKind) (n at : ℕ) → Agree ts us n → at ≤ n → At ts at k → Nowhere a us at → Nowhere (Sees k a c) us at
nowhere_sees ts us n at e l h nw to x (g.sees i j y w d) = nw _ _ d
nowhere_sees ts us n at e l h nw to x (g.misses i j y w d) = absurd (w (e at l ∙ h))

pub nowhere_misses : {X : Type 0} {k : TokenKind} {a c : Rule X} (ts us : List TokenKind) (n at : ℕ) → Agree ts us n → at ≤ n → NotAt ts at k → Nowhere c us at → Nowhere (Sees k a c) us at
nowhere_misses ts us n at e l h nw to x (g.misses i j y w d) = nw _ _ d
nowhere_misses ts us n at e l h nw to x (g.sees i j y w d) = absurd (h (sym (e at l) ∙ w))

-- a token that is not there
pub nowhere_past_none : {X : Type 0} {k : TokenKind} {a : Rule X} (ts us : List TokenKind) (n at : ℕ) → Agree ts us n → at ≤ n → NotAt ts at k → Nowhere (Past k a) us at
nowhere_past_none ts us n at e l h to x (g.past i j y w d) = h (sym (e at l) ∙ w)

pub nowhere_reads : {A X : Type 0} {says : Option TokenKind → Option A} {a : A → Rule X} {c : Rule X} (ts us : List TokenKind) (n at p : ℕ) (v : A) → p ≡ at + 1 → Agree ts us n → at ≤ n → says (slice_get ts at) ≡ Some v → Nowhere (a v) us p → Nowhere (Reads says a c) us at
nowhere_reads {says = says} {a = a} ts us n at p v q e l h nw to x (g.reads i j z y w d) = nw j y (moved_to (a v) us p (i + 1) j y q (taken a us _ _ v z y (one_of (says (slice_get ts at)) (says (slice_get us at)) v z (ap says (sym (e at l))) h w) d))
nowhere_reads {says = says} ts us n at p v q e l h nw to x (g.reads_not i j y w d) = absurd (none_of (says (slice_get ts at)) (says (slice_get us at)) v (ap says (sym (e at l))) h w)

pub nowhere_reads_not : {A X : Type 0} {says : Option TokenKind → Option A} {a : A → Rule X} {c : Rule X} (ts us : List TokenKind) (n at : ℕ) → Agree ts us n → at ≤ n → says (slice_get ts at) ≡ None → Nowhere c us at → Nowhere (Reads says a c) us at
nowhere_reads_not ts us n at e l h nw to x (g.reads_not i j y w d) = nw _ _ d
nowhere_reads_not {says = says} ts us n at e l h nw to x (g.reads i j z y w d) = absurd (none_of (says (slice_get us at)) (says (slice_get ts at)) z (ap says (e at l)) w h)

pub nowhere_never : {X : Type 0} (us : List TokenKind) (at : ℕ) → Nowhere (Never {X = X}) us at
nowhere_never us at to x h = elim h [ ]

pub nowhere_first : {A X : Type 0} {a : Rule A} {b : A → Rule X} (us : List TokenKind) (at : ℕ) → Nowhere a us at → Nowhere (Then a b) us at
nowhere_first us at nw to x (g.then i m j z y h d) = nw _ _ h

pub nowhere_next : {A X : Type 0} {a a' : Rule A} {b : A → Rule X} (ts us : List TokenKind) (n at mid : ℕ) (v : A) → Agree ts us n → mid ≤ n → Alike a a' → a ts at mid v → Nowhere (b v) us mid → Nowhere (Then a' b) us at
nowhere_next {b = b} ts us n at mid v e l same d nw to x (g.then i m j z y h k) =
    let q = same.same ts us n e _ _ _ _ _ l d h in nw _ _ (moved b us mid m _ v z _ q.0 q.1 k)

pub nowhere_joined : {A X : Type 0} {says : Option TokenKind → Option A} {a : A → Rule X} (ts us : List TokenKind) (n at p : ℕ) (v : A) → p ≡ at + 1 → Agree ts us n → at ≤ n → says (slice_get ts at) ≡ Some v → Nowhere (a v) us p → Nowhere (Repeats says a) us at
nowhere_joined {says = says} {a = a} ts us n at p v q e l h nw to x (g.over i j w d) = absurd (none_of (says (slice_get ts at)) (says (slice_get us at)) v (ap says (sym (e at l))) h w)
nowhere_joined {says = says} {a = a} ts us n at p v q e l h nw to x (g.more i m j z y ys w d o) = nw m y (moved_to (a v) us p (i + 1) m y q (taken a us _ _ v z y (one_of (says (slice_get ts at)) (says (slice_get us at)) v z (ap says (sym (e at l))) h w) d))

pub nowhere_repeats : {A X : Type 0} {says : Option TokenKind → Option A} {b : Rule X} {a' : A → Rule X} (ts us : List TokenKind) (n at p mid : ℕ) (v : A) (y : X) → p ≡ at + 1 → Agree ts us n → at ≤ n → mid ≤ n → says (slice_get ts at) ≡ Some v
    → Alike b (a' v) → b ts p mid y → Nowhere (Repeats says a') us mid → Nowhere (Repeats says a') us at
nowhere_repeats {says = says} ts us n at p mid v y q e l l' h same d nw to x (g.over i j w o) = absurd (none_of (says (slice_get ts at)) (says (slice_get us at)) v (ap says (sym (e at l))) h w)
nowhere_repeats {says = says} {a' = a'} ts us n at p mid v y q e l l' h same d nw to x (g.more i m j z u ys w k o) =
    let k' = moved_to (a' v) us p (i + 1) m u q (taken a' us _ _ v z u (one_of (says (slice_get ts at)) (says (slice_get us at)) v z (ap says (sym (e at l))) h w) k) in
    let t = same.same ts us n e p mid m y u l' d k' in nw j ys (goes_on says a' us mid m j ys t.0 o)

-- ---- the step from a part that stops to the whole

pub stops_as : {X Y : Type 0} (whole : ℕ → Rule X) (part : ℕ → Rule Y) (ts : List TokenKind) (levels least at p : ℕ) (stop : ParseStop) → at ≤ p
    → ((m : ℕ) (us : List TokenKind) (n : ℕ) → p ≤ n → Agree ts us n → Nowhere (part m) us p → Nowhere (whole m) us at)
    → Stops part ts levels least p stop → Stops whole ts levels least at stop
stops_as whole part ts levels least at p stop h needs (r.at_token n l nw) = r.at_token n (omega (arith, h, l)) (λ us agree m. needs m us n l agree (nw us agree m))
stops_as whole part ts levels least at p stop h needs (r.too_deep n v l y c nw) = r.too_deep n v (omega (arith, h, l)) y (omega (arith, c, opened_rises ts at p h)) (λ us agree. needs levels us n l agree (nw us agree))
stops_as whole part ts levels least at p stop h needs r.for_memory = r.for_memory

-- the part takes the levels below, from the same place
pub stops_lower : {X Y : Type 0} (whole : ℕ → Rule X) (part : ℕ → Rule Y) (ts : List TokenKind) (below at : ℕ) (stop : ParseStop)
    → ((us : List TokenKind) (n : ℕ) → at ≤ n → Agree ts us n → Nowhere (whole zero) us at)
    → ((m : ℕ) (us : List TokenKind) (n : ℕ) → at ≤ n → Agree ts us n → Nowhere (part m) us at → Nowhere (whole (suc m)) us at)
    → Stops part ts below below at stop → Stops whole ts (suc below) below at stop
stops_lower whole part ts below at stop none needs (r.at_token n l nw) = r.at_token n l (λ us agree m. by_levels m us agree (λ i. nw us agree i))
  where
    by_levels : (m : ℕ) (us : List TokenKind) → Agree ts us n → ((i : ℕ) → Nowhere (part i) us at) → Nowhere (whole m) us at
    by_levels zero us agree f = none us n l agree
    by_levels (suc m) us agree f = needs m us n l agree (f m)
stops_lower whole part ts below at stop none needs (r.too_deep n v l y c nw) = r.too_deep n v l y c (λ us agree. needs below us n l agree (nw us agree))
stops_lower whole part ts below at stop none needs r.for_memory = r.for_memory

-- ---- what is read, its places by equations

pub past_made : {X : Type 0} {k : TokenKind} {a : Rule X} (ts : List TokenKind) (at p to : ℕ) (x : X) → p ≡ at + 1 → At ts at k → a ts p to x → Past k a ts at to x
past_made ts at p to x e h d = g.past at to x h (rw (← e) d)

pub reads_made : {A X : Type 0} {says : Option TokenKind → Option A} {a : A → Rule X} {c : Rule X} (ts : List TokenKind) (at p to : ℕ) (v : A) (x : X) → p ≡ at + 1 → says (slice_get ts at) ≡ Some v → a v ts p to x → Reads says a c ts at to x
reads_made ts at p to v x e h d = g.reads at to v x h (rw (← e) d)

pub gives_here : {X : Type 0} (ts : List TokenKind) (at : ℕ) (x : X) → Gives x ts at at x
gives_here ts at x = g.gives at at x refl refl
