-- Lists and lines, element by element: what the rest comes to, the whole comes to.
use Rattle.std.proofs.Common.{◌≡◌, ◌∙◌, refl, sym, ap, subst, ℕ, ◌-◌, ◌<◌, ◌≤◌, ◌+◌, length, take, map, List, [], ◌∷◌, ◌++◌, Option, Some, None, Result, Ok, Err, arith, append_assoc, append-nil}
use Rattle.std.specs.Prelude.{slice_get}
use Rattle.std.proofs.lemmas.List.{take_all}
use Rattle.std.proofs.Math.Seq.{take-append_seam}
use Rattle.definitions.specs.Token.{TokenKind, Mark, Comma}
use Rattle.definitions.specs.Rule.{Rule, At, NotAt, Gives, Then, Repeats}
use Rattle.definitions.specs.Rule as g
use Rattle.definitions.specs.Grammar.{ListOf, comma_in}
use Rattle.definitions.proofs.Alike.{Alike}
use Rattle.syntax_cursor.specs.declared.stop.ParseStop.{ParseStop}
use Rattle.syntax_cursor.specs.Reading.{Place, IsNext, EndsList, Outcome, viewed}
use Rattle.syntax_cursor.specs.Reading as r
use Rattle.syntax_cursor.proofs.Stopping.{nowhere_first, nowhere_joined, nowhere_repeats, stops_as, gives_here}
use Rattle.syntax_cursor.proofs.Tokens.{inside}
use Rattle.syntax_cursor.proofs.Outcomes.{then_on}

-- a tree is made of what a rule reads
pub mapped : {X Y : Type 0} {a : ℕ → Rule X} {levels least : ℕ} {p q : Place} (f : X → Y) (o : Result X ParseStop) → Outcome a levels least p q o → Outcome (λ m. Then (a m) (λ x. Gives (f x))) levels least p q (viewed f o)
mapped {q = q} f (Ok x) (r.read y e d) = r.read (f x) e (g.then _ _ _ _ _ d (gives_here _ q.at (f x)))
mapped {a = a} {levels = levels} {least = least} {p = p} f (Err stop) (r.stopped s st) =
    r.stopped stop (stops_as (λ m. Then (a m) (λ x. Gives (f x))) a p.tokens levels least p.at p.at stop (omega arith) (λ m us n h ag nw. nowhere_first us p.at nw) st)

module _ {A X Y : Type 0} (says : Option TokenKind → Option A) (element : ℕ → A → Rule X) (whole : ℕ → Rule Y) (levels least : ℕ) where
  -- what the elements behind a place come to, the whole comes to with those before it
  abbrev pub Joined : (p q : Place) → (List X → Y) → List X → Type 0
  Joined p q h xs = (t : Place) (o : Result (List X) ParseStop) → Outcome (λ m. Repeats says (element m)) levels least q t o → Outcome whole levels least p t (viewed (λ ys. h (xs ++ ys)) o)

  -- an element and those behind it
  repeats_on : (al : (m : ℕ) (a : A) → Alike (element levels a) (element m a)) (p q t u : Place) (a : A) (x : X) (k : ℕ) → (says (slice_get p.tokens p.at) ≡ Some a) × IsNext p q → Outcome (λ m. element m a) levels k q t (Ok x)
      → (o : Result (List X) ParseStop) → Outcome (λ m. Repeats says (element m)) levels least t u o → Outcome (λ m. Repeats says (element m)) levels least p u (viewed (λ ys. x ∷ ys) o)
  repeats_on al p q t u a x k at (r.read y e d) (Ok ys) (r.read zs f d') =
      let d₁ : element levels a p.tokens q.at t.at x = subst (λ ts. element levels a ts q.at t.at x) at.1.tokens d in
      let d₂ : Repeats says (element levels) p.tokens t.at u.at ys = subst (λ ts. Repeats says (element levels) ts t.at u.at ys) (e ∙ at.1.tokens) d' in
      r.read (x ∷ ys) (f ∙ e ∙ at.1.tokens) (g.more p.at t.at u.at a x ys at.0 (subst (λ i. element levels a p.tokens i t.at x) at.1.at d₁) d₂)
  repeats_on al p q t u a x k at (r.read y e d) (Err stop) (r.stopped s st) =
      let d₁ : element levels a p.tokens q.at t.at x = subst (λ ts. element levels a ts q.at t.at x) at.1.tokens d in
      let rises : q.at ≤ t.at = (al levels a).rises p.tokens q.at t.at x d₁ in
      let st' = subst (λ ts. r.Stops (λ m. Repeats says (element m)) ts levels least t.at stop) (e ∙ at.1.tokens) st in
      r.stopped stop (stops_as (λ m. Repeats says (element m)) (λ m. Repeats says (element m)) p.tokens levels least p.at t.at stop (omega (arith, rises, at.1.at))
      (λ m us n h ag nw. nowhere_repeats p.tokens us n p.at q.at t.at a x at.1.at ag (omega (arith, h, rises, at.1.at)) h at.0 (al m a) d₁ nw) st')

  repeats_fails : (p q t : Place) (a : A) (stop : ParseStop) → (says (slice_get p.tokens p.at) ≡ Some a) × IsNext p q → Outcome (λ m. element m a) levels least q t (Err stop) → Outcome (λ m. Repeats says (element m)) levels least p t (Err stop)
  repeats_fails p q t a stop at (r.stopped s st) =
      r.stopped stop (stops_as (λ m. Repeats says (element m)) (λ m. element m a) p.tokens levels least p.at q.at stop (omega (arith, at.1.at))
      (λ m us n h ag nw. nowhere_joined p.tokens us n p.at q.at a at.1.at ag (omega (arith, h, at.1.at)) at.0 nw)
      (subst (λ ts. r.Stops (λ m. element m a) ts levels least q.at stop) at.1.tokens st))

  assoc : (h : List X → Y) (xs : List X) (x : X) (o : Result (List X) ParseStop) → viewed (λ ys. h (xs ++ ys)) (viewed (λ ys. x ∷ ys) o) ≡ viewed (λ ys. h ((xs ++ x ∷ []) ++ ys)) o
  assoc h xs x (Ok ys) = ap (λ zs. Ok (h zs)) (sym (append_assoc xs (x ∷ []) ys))
  assoc h xs x (Err stop) = refl

  pub joined : (al : (m : ℕ) (a : A) → Alike (element levels a) (element m a)) (p q q' t : Place) (h : List X → Y) (xs : List X) (a : A) (x : X) (k : ℕ) → Joined p q h xs → (says (slice_get q.tokens q.at) ≡ Some a) × IsNext q q'
      → Outcome (λ m. element m a) levels k q' t (Ok x) → Joined p t h (xs ++ x ∷ [])
  joined al p q q' t h xs a x k inv at d u o rest = subst (λ z. Outcome whole levels least p u z) (assoc h xs x o) (inv u (viewed (λ ys. x ∷ ys) o) (repeats_on al q q' t u a x k at d o rest))

  pub joined_fails : (p q q' t : Place) (h : List X → Y) (xs : List X) (a : A) (stop : ParseStop) → Joined p q h xs → (says (slice_get q.tokens q.at) ≡ Some a) × IsNext q q' → Outcome (λ m. element m a) levels least q' t (Err stop) → Outcome whole levels least p t (Err stop)
  joined_fails p q q' t h xs a stop inv at d = inv t (Err stop) (repeats_fails q q' t a stop at d)

  pub joined_ends : (p q : Place) (h : List X → Y) (xs : List X) → Joined p q h xs → says (slice_get q.tokens q.at) ≡ None → Outcome whole levels least p q (Ok (h xs))
  joined_ends p q h xs inv none = subst (λ zs. Outcome whole levels least p q (Ok (h zs))) (append-nil xs) (inv q (Ok []) (r.read [] refl (g.over q.at q.at none refl)))

-- ---- lists between commas

no_comma_in : (o : Option TokenKind) → ¬ (o ≡ Some (Mark Comma)) → comma_in o ≡ None
no_comma_in (Some (Mark Comma)) h = absurd (h refl)
no_comma_in _ h = refl

viewed_twice : {A B C : Type 0} (f : B → C) (g : A → B) (o : Result A ParseStop) → viewed f (viewed g o) ≡ viewed (λ x. f (g x)) o
viewed_twice f g (Ok x) = refl
viewed_twice f g (Err stop) = refl

all_kept : {X : Type 0} (n : ℕ) (xs ys : List X) → length xs ≡ n → take n (xs ++ ys) ≡ xs
all_kept n xs ys e = rw (sym e) (take-append_seam xs ys)

module _ {X : Type 0} (rule : ℕ → Rule X) (most levels least : ℕ) where
  abbrev cut : List X → List X
  cut = take (most + 1)

  -- elements that are kept so far, and behind them whatever the rest comes to
  abbrev pub Lists : (p q : Place) → List X → Type 0
  Lists p q xs = Joined comma_in (λ m comma. rule m) (λ m. ListOf most (rule m)) levels least p q cut xs

  module _ (al : (m : ℕ) → Alike (rule levels) (rule m)) where
    pub list_begins : (p q : Place) (x : X) (k : ℕ) → Outcome rule levels k p q (Ok x) → Lists p q (x ∷ [])
    list_begins p q x k d t o rest =
        subst (λ z. Outcome (λ m. ListOf most (rule m)) levels least p t z) (viewed_twice cut (λ ys. x ∷ ys) o)
        (mapped cut (viewed (λ ys. x ∷ ys) o) (then_on al d (mapped (λ ys. x ∷ ys) o rest)))

    pub list_goes_on : (p q q' t : Place) (xs : List X) (x : X) (k : ℕ) → Lists p q xs → At q.tokens q.at (Mark Comma) × IsNext q q' → Outcome rule levels k q' t (Ok x) → Lists p t (xs ++ x ∷ [])
    list_goes_on p q q' t xs x k inv at d = joined comma_in (λ m comma. rule m) (λ m. ListOf most (rule m)) levels least (λ m comma. al m) p q q' t cut xs (Mark Comma) x k inv (ap comma_in at.0, at.1) d

    -- of a list past its limit no more are kept
    pub list_is_long : (p q q' t : Place) (xs : List X) (x : X) (k : ℕ) → length xs ≡ most + 1 → Lists p q xs → At q.tokens q.at (Mark Comma) × IsNext q q' → Outcome rule levels k q' t (Ok x) → Lists p t xs
    list_is_long p q q' t xs x k full inv at d u o rest = subst (λ z. Outcome (λ m. ListOf most (rule m)) levels least p u z) (same o) (list_goes_on p q q' t xs x k inv at d u o rest)
      where
        same : (o : Result (List X) ParseStop) → viewed (λ ys. cut ((xs ++ x ∷ []) ++ ys)) o ≡ viewed (λ ys. cut (xs ++ ys)) o
        same (Ok ys) = ap Ok (ap cut (append_assoc xs (x ∷ []) ys) ∙ all_kept (most + 1) xs (x ∷ ys) full ∙ sym (all_kept (most + 1) xs ys full))
        same (Err stop) = refl

    pub list_fails : (p q q' t : Place) (xs : List X) (stop : ParseStop) → Lists p q xs → At q.tokens q.at (Mark Comma) × IsNext q q' → Outcome rule levels least q' t (Err stop) → Outcome (λ m. ListOf most (rule m)) levels least p t (Err stop)
    list_fails p q q' t xs stop inv at d = joined_fails comma_in (λ m comma. rule m) (λ m. ListOf most (rule m)) levels least p q q' t cut xs (Mark Comma) stop inv (ap comma_in at.0, at.1) d

    pub list_ends : (p q t u : Place) (xs : List X) (kept : ℕ) → length xs ≤ most + 1 → Lists p q xs → NotAt q.tokens q.at (Mark Comma) × (t ≡ q) → EndsList most kept t u → Outcome (λ m. ListOf most (rule m)) levels least p u (Ok xs)
    list_ends p q t u xs kept few inv at end =
        ended (subst (λ z. Outcome (λ m. ListOf most (rule m)) levels least p q (Ok z)) (take_all (most + 1) xs few)
        (joined_ends comma_in (λ m comma. rule m) (λ m. ListOf most (rule m)) levels least p q cut xs inv (no_comma_in (slice_get q.tokens q.at) at.0)))
      where
        ended : Outcome (λ m. ListOf most (rule m)) levels least p q (Ok xs) → Outcome (λ m. ListOf most (rule m)) levels least p u (Ok xs)
        ended (r.read ys e d) =
            r.read ys (end.tokens ∙ ap (λ (z : Place). z.tokens) at.1 ∙ e)
            (subst (λ i. ListOf most (rule levels) p.tokens p.at i ys) (sym (end.at ∙ ap (λ (z : Place). z.at) at.1)) d)

-- the elements of a list that grew by one
pub map_push : {A B : Type 0} (f : A → B) (xs : List A) (x : A) → map f (xs ++ x ∷ []) ≡ map f xs ++ f x ∷ []
map_push f [] x = refl
map_push f (y ∷ ys) x = ap (λ zs. f y ∷ zs) (map_push f ys x)

-- fewer tokens are left behind an element than before its comma or operator
pub fewer : {X : Type 0} (rule : ℕ → Rule X) (levels k : ℕ) (p q t : Place) (kind : TokenKind) (x : X) → Alike (rule levels) (rule levels) → At p.tokens p.at kind × IsNext p q → Outcome rule levels k q t (Ok x) → length t.tokens - t.at < length p.tokens - p.at
fewer rule levels k p q t kind x al at (r.read y e d) =
    let l : p.at < length p.tokens = inside p.tokens p.at kind at.0 in
    let m : q.at ≤ t.at = al.rises q.tokens q.at t.at x d in
    let n : length t.tokens ≡ length p.tokens = ap length (e ∙ at.1.tokens) in
    omega (arith, l, m, n, at.1.at)
