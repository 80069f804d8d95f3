-- Items that are handed out part by part.
use Rattle.std.proofs.Common.{ℕ, ◌+◌, ◌<◌, ◌≤◌, ◌≡◌, ◌∙◌, ◌⊎◌, inl, inr, Bool, true, false, List, [], ◌∷◌, ◌++◌, Option, Some, None, refl, sym, ap, subst, arith}
use Rattle.std.specs.Prelude.{Contains}
use Rattle.std.specs.List.{AllByRecursion}
use Rattle.std.proofs.lemmas.Bool.{cases_lt}
use Rattle.std.proofs.lemmas.List.{append-nil}
use Rattle.std.proofs.lemmas.List.Elements.{Contains-append_left, Contains-append_right, Contains-append_cases}
use Rattle.definitions.proofs.PlanTheory.Elements.{first_is, later, first_or_rest, not_in_empty}
use Rattle.cert_check.specs.Handing.{AllDiffer, Hears, HandsOut}

module _ {X : Type 0} where
  pub append_more : (done rest : List X) (x : X) → done ++ (x ∷ rest) ≡ (done ++ (x ∷ [])) ++ rest
  append_more [] rest x = refl
  append_more (y ∷ done) rest x = ap (λ ys. y ∷ ys) (append_more done rest x)

  both_all : (P : X → Type 0) (xs ys : List X) → AllByRecursion P xs → AllByRecursion P ys → AllByRecursion P (xs ++ ys)
  both_all P [] ys p q = q
  both_all P (x ∷ xs) ys (p, ps) q = (p, both_all P xs ys ps q)

  weaker_all : (P Q : X → Type 0) (xs : List X) → ((x : X) → P x → Q x) → AllByRecursion P xs → AllByRecursion Q xs
  weaker_all P Q [] f p = tt
  weaker_all P Q (x ∷ xs) f (p, ps) = (f x p, weaker_all P Q xs f ps)

  pub each_has : (P : X → Type 0) (xs : List X) (x : X) → AllByRecursion P xs → Contains xs x → P x
  each_has P [] x all there = absurd (not_in_empty x there)
  each_has P (y ∷ xs) x (p, ps) there = by_place (each_has P xs x ps) (first_or_rest y xs x there)
    where
      by_place : (Contains xs x → P x) → (y ≡ x) ⊎ Contains xs x → P x
      by_place rest (inl is) = subst P is p
      by_place rest (inr r) = rest r

  both_differ : (xs ys : List X) → AllDiffer xs → AllDiffer ys → ((x : X) → Contains xs x → Contains ys x → ⊥) → AllDiffer (xs ++ ys)
  both_differ [] ys a b apart = b
  both_differ (x ∷ xs) ys (new, a) b apart = ((λ h. by_place (Contains-append_cases xs ys x h)), both_differ xs ys a b (λ y h. apart y (later x xs y h)))
    where
      by_place : Contains xs x ⊎ Contains ys x → ⊥
      by_place (inl h) = new h
      by_place (inr h) = apart x (first_is x xs x refl) h

  -- an item that comes again
  pub apart_in : (done rest : List X) (x : X) → AllDiffer (done ++ (x ∷ rest)) → Contains done x → ⊥
  apart_in [] rest x differ there = not_in_empty x there
  apart_in (y ∷ done) rest x (new, differ) there = by_place (apart_in done rest x differ) (first_or_rest y done x there)
    where
      by_place : (Contains done x → ⊥) → (y ≡ x) ⊎ Contains done x → ⊥
      by_place never (inl is) = new (Contains-append_right done (x ∷ rest) y (first_is x rest y (sym is)))
      by_place never (inr r) = never r

-- an item of one of the first numbers
abbrev pub Before : {X : Type 0} → (ℕ → X → Type 0) → ℕ → X → Type 0
Before Of n x = (m : ℕ) × (m < n) × Of m x

module _ {L X : Type 0} (hears : L → X → Bool → L → Type 0) where
  hears_both : (old mid new : L) (xs ys : List X) (stopped : Option X) → Hears hears old xs None mid → Hears hears mid ys stopped new → Hears hears old (xs ++ ys) stopped new
  hears_both old mid new [] ys stopped (e, is) h = subst (λ m. Hears hears m ys stopped new) is h
  hears_both old mid new (x ∷ xs) ys stopped (m, inl (heard, rest)) h = (m, inl (heard, hears_both m mid new xs ys stopped rest h))
  hears_both old mid new (x ∷ xs) ys stopped (m, inr (heard, none, is, e)) h = absurd cc

  -- ---- parts

  pub nothing : (P : X → Type 0) (old : L) → ((x : X) → P x → ⊥) → HandsOut hears P old None old
  nothing P old never = record { given = []; heard = (refl, refl); each = tt; once = tt; all = λ e x p. absurd (never x p) }

  pub goes_on : (P : X → Type 0) (old new : L) (x : X) → hears old x true new → P x → ((y : X) → P y → y ≡ x) → HandsOut hears P old None new
  goes_on P old new x heard p one = record {
    given = x ∷ [];
    heard = (new, inl (heard, (refl, refl)));
    each = (p, tt);
    once = (not_in_empty x, tt);
    all = λ e y q. first_is x [] y (sym (one y q));
  }

  pub stops : (P : X → Type 0) (old new : L) (x : X) → hears old x false new → P x → HandsOut hears P old (Some x) new
  stops P old new x heard p = record {
    given = x ∷ [];
    heard = (new, inr (heard, refl, refl, refl));
    each = (p, tt);
    once = (not_in_empty x, tt);
    all = λ e. absurd cc;
  }

  pub both : (P Q R : X → Type 0) (old mid new : L) (stopped : Option X) → HandsOut hears P old None mid → HandsOut hears Q mid stopped new
      → ((x : X) → P x → Q x → ⊥) → ((x : X) → P x → R x) → ((x : X) → Q x → R x) → (stopped ≡ None → (x : X) → R x → P x ⊎ Q x) → HandsOut hears R old stopped new
  both P Q R old mid new stopped a b apart p q r = record {
    given = a.given ++ b.given;
    heard = hears_both old mid new a.given b.given stopped a.heard b.heard;
    each = both_all R a.given b.given (weaker_all P R a.given p a.each) (weaker_all Q R b.given q b.each);
    once = both_differ a.given b.given a.once b.once (λ x h k. apart x (each_has P a.given x a.each h) (each_has Q b.given x b.each k));
    all = λ e x is. by_kind e x (r e x is);
  }
    where
      by_kind : stopped ≡ None → (x : X) → P x ⊎ Q x → Contains (a.given ++ b.given) x
      by_kind e x (inl is) = Contains-append_left a.given b.given x (a.all refl x is)
      by_kind e x (inr is) = Contains-append_right a.given b.given x (b.all e x is)

  pub the_same : (P Q : X → Type 0) (old new : L) (stopped : Option X) → HandsOut hears P old stopped new → ((x : X) → P x → Q x) → (stopped ≡ None → (x : X) → Q x → P x) → HandsOut hears Q old stopped new
  the_same P Q old new stopped a f g = record {
    given = a.given;
    heard = a.heard;
    each = weaker_all P Q a.given f a.each;
    once = a.once;
    all = λ e x is. a.all e x (g e x is);
  }

  -- ---- of one number after another

  pub at_zero : (Of : ℕ → X → Type 0) (old : L) → HandsOut hears (Before Of 0) old None old
  at_zero Of old = nothing (Before Of 0) old (λ x is. absurd (omega (arith, is.1)))

  module _ (Of : ℕ → X → Type 0) (apart : (a b : ℕ) (x : X) → Of a x → Of b x → a ≡ b) (n : ℕ) (old mid new : L) (before : HandsOut hears (Before Of n) old None mid) where
    other : (x : X) → Before Of n x → Of n x → ⊥
    other x (m, lt, is) is' = let e = apart m n x is is' in absurd (omega arith)

    pub number_more : HandsOut hears (Of n) mid None new → HandsOut hears (Before Of (n + 1)) old None new
    number_more own = both (Before Of n) (Of n) (Before Of (n + 1)) old mid new None before own other
        (λ x is. (is.0, omega (arith, is.1), is.2)) (λ x is. (n, omega arith, is)) (λ e x is. by_place x is.0 is.1 is.2 (cases_lt is.0 n))
      where
        by_place : (x : X) (m : ℕ) → m < n + 1 → Of m x → (m < n) ⊎ (n ≤ m) → Before Of n x ⊎ Of n x
        by_place x m lt is (inl less) = inl (m, less, is)
        by_place x m lt is (inr le) = let e : m ≡ n = omega arith in inr (subst (λ k. Of k x) e is)

    pub number_stops : (count : ℕ) (x : X) → n < count → HandsOut hears (Of n) mid (Some x) new → HandsOut hears (Before Of count) old (Some x) new
    number_stops count x within own = both (Before Of n) (Of n) (Before Of count) old mid new (Some x) before own other
        (λ y is. (is.0, omega (arith, is.1, within), is.2)) (λ y is. (n, within, is)) (λ e. absurd cc)

-- ---- of one item of a list after another

module _ {L I X : Type 0} (hears : L → X → Bool → L → Type 0) (Of : I → X → Type 0) where
  abbrev pub Among : List I → X → Type 0
  Among items x = (item : I) × Contains items item × Of item x

  -- of a list that is of a kind what stands before the rest has been handed out
  abbrev pub Handed : (List I → Type 0) → L → List I → L → Type 0
  Handed Are old rest new = (done : List I) × Are (done ++ rest) × HandsOut hears (Among done) old None new

  pub begins : (Are : List I → Type 0) (items : List I) (old : L) → Are items → Handed Are old items old
  begins Are items old are = ([], are, nothing hears (Among []) old (λ x is. not_in_empty is.0 is.1))

  module _ (Are : List I → Type 0) (old mid new : L) (items rest : List I) (item : I) (steps : items ≡ item ∷ rest) (handed : Handed Are old items mid)
      (apart : (done : List I) → Are (done ++ (item ∷ rest)) → (y : I) → Contains done y → (x : X) → Of y x → Of item x → ⊥) where
    was : Are (handed.0 ++ (item ∷ rest))
    was = subst (λ ys. Are (handed.0 ++ ys)) steps handed.1

    other_items : (x : X) → Among handed.0 x → Of item x → ⊥
    other_items x is own = apart handed.0 was is.0 is.1 x is.2 own

    pub item_more : HandsOut hears (Of item) mid None new → Handed Are old rest new
    item_more own = (
      handed.0 ++ (item ∷ []),
      subst Are (append_more handed.0 rest item) was,
      both hears (Among handed.0) (Of item) (Among (handed.0 ++ (item ∷ []))) old mid new None handed.2 own other_items
          (λ x is. (is.0, Contains-append_left handed.0 (item ∷ []) is.0 is.1, is.2))
          (λ x is. (item, Contains-append_right handed.0 (item ∷ []) item (first_is item [] item refl), is))
          (λ e x is. by_place x is.0 is.2 (Contains-append_cases handed.0 (item ∷ []) is.0 is.1)),
    )
      where
        by_first : (x : X) (y : I) → Of y x → (item ≡ y) ⊎ Contains [] y → Among handed.0 x ⊎ Of item x
        by_first x y is (inl e) = inr (subst (λ z. Of z x) (sym e) is)
        by_first x y is (inr none) = absurd (not_in_empty y none)

        by_place : (x : X) (y : I) → Of y x → Contains handed.0 y ⊎ Contains (item ∷ []) y → Among handed.0 x ⊎ Of item x
        by_place x y is (inl there) = inl (y, there, is)
        by_place x y is (inr last) = by_first x y is (first_or_rest item [] y last)

    pub item_stops : (P : X → Type 0) (last : X) → ((all : List I) → Are all → (y : I) → Contains all y → (x : X) → Of y x → P x) → HandsOut hears (Of item) mid (Some last) new → HandsOut hears P old (Some last) new
    item_stops P last are own = both hears (Among handed.0) (Of item) P old mid new (Some last) handed.2 own other_items
        (λ x is. are (handed.0 ++ (item ∷ rest)) was is.0 (Contains-append_left handed.0 (item ∷ rest) is.0 is.1) x is.2)
        (λ x is. are (handed.0 ++ (item ∷ rest)) was item (Contains-append_right handed.0 (item ∷ rest) item (first_is item rest item refl)) x is)
        (λ e. absurd cc)

  pub ends : (Are : List I → Type 0) (P : X → Type 0) (old new : L) (items : List I) → items ≡ [] → Handed Are old items new
      → ((all : List I) → Are all → (y : I) → Contains all y → (x : X) → Of y x → P x) → ((all : List I) → Are all → (x : X) → P x → Among all x) → HandsOut hears P old None new
  ends Are P old new items none (done, are, out) f g =
      let are' : Are done = subst Are (ap (λ ys. done ++ ys) none ∙ append-nil done) are in
      the_same hears (Among done) P old new None out (λ x is. f done are' is.0 is.1 x is.2) (λ e x is. g done are' x is)

-- ---- what a listener heard

module _ {L X : Type 0} (hears : L → X → Bool → L → Type 0) (P : X → Type 0) where
  pub heard_all : (old new : L) (given : List X) → ((a b : L) (x : X) → hears a x true b → P x) → Hears hears old given None new → AllByRecursion P given
  heard_all old new [] f h = tt
  heard_all old new (x ∷ xs) f (m, inl (heard, rest)) = (f old m x heard, heard_all m new xs f rest)
  heard_all old new (x ∷ xs) f (m, inr (heard, none, is, e)) = absurd cc

  pub heard_last : (old new : L) (given : List X) (last : X) → ((a b : L) (x : X) → hears a x false b → P x) → Hears hears old given (Some last) new → P last × Contains given last
  heard_last old new [] last f (e, is) = absurd cc
  heard_last old new (x ∷ xs) last f (m, inl (heard, rest)) = let r = heard_last m new xs last f rest in (r.0, later x xs last r.1)
  heard_last old new (x ∷ xs) last f (m, inr (heard, none, is, e)) =
      let same : x ≡ last = cc in
      (subst P same (f old m x heard), first_is x xs last same)

  -- one that stops at none heard only such
  pub none_stopped : (Of : X → Type 0) (old new : L) → ((a b : L) (x : X) → hears a x true b → P x) → HandsOut hears Of old None new → (x : X) → Of x → P x
  none_stopped Of old new f out x is = each_has P out.given x (heard_all old new out.given f out.heard) (out.all refl x is)

  pub one_stopped : (Of : X → Type 0) (old new : L) (last : X) → ((a b : L) (x : X) → hears a x false b → P x) → HandsOut hears Of old (Some last) new → Of last × P last
  one_stopped Of old new last f out =
      let r = heard_last old new out.given last f out.heard in
      (each_has Of out.given last out.each r.1, r.0)
