-- A search for a fit of a pattern.
use Rattle.std.proofs.Common.{◌≡◌, ◌∙◌, refl, sym, ap, ap₂, ℕ, zero, suc, ◌+◌, ◌-◌, ◌*◌, ◌<◌, ◌≤◌, List, [], ◌∷◌, Option, Some, None, Bool, true, false, length, drop, get_or, arith}
use Rattle.std.specs.Prelude.{◌==◌, ◌&&◌, ◌||◌, nat_lt}
use Rattle.std.specs.List.{list_any}
use Rattle.std.proofs.lemmas.List.{drop_more, drop_all}
use Rattle.std.proofs.lemmas.Bool.Decides.{nat_tests}
use Rattle.std.proofs.Math.Nat.{mul-le-mul_right}
use Rattle.definitions.specs.Pattern.{endings, fits_first, fits}
use Rattle.sqlvalue.specs.declared.pattern.Places.{Places}

-- what is left of a pattern fits what is left of a text
abbrev pub fits_from : (pattern text : List ℕ) (i j : ℕ) → Bool
fits_from pattern text i j = fits (drop i pattern) (drop j text)

-- it fits an ending of what is left
abbrev pub fits_later : (pattern text : List ℕ) (i j : ℕ) → Bool
fits_later pattern text i j = list_any (fits (drop i pattern)) (endings (drop j text))

-- ---- truth of any

or_left : (a b : Bool) → a ≡ true → (a || b) ≡ true
or_left true b e = refl
or_left false b e = absurd cc

or_right : (a b : Bool) → b ≡ true → (a || b) ≡ true
or_right true b e = refl
or_right false b e = e

or_cases : {P : Type 0} (a b : Bool) → (a || b) ≡ true → (a ≡ true → P) → (b ≡ true → P) → P
or_cases true b e f g = f refl
or_cases false b e f g = g e

both_ways : (a b : Bool) → (a ≡ true → b ≡ true) → (b ≡ true → a ≡ true) → a ≡ b
both_ways true b f g = sym (f refl)
both_ways false true f g = g refl
both_ways false false f g = refl

not_true : (a : Bool) → (a ≡ true → ⊥) → a ≡ false
not_true true h = absurd (h refl)
not_true false h = refl

-- an ending that fits, and its place
any_at : (f : List ℕ → Bool) (t : List ℕ) (k : ℕ) → f (drop k t) ≡ true → list_any f (endings t) ≡ true
any_at f [] k e = or_left (f []) false (ap f (sym (drop_all k [] (omega arith))) ∙ e)
any_at f (c ∷ t) zero e = or_left (f (c ∷ t)) (list_any f (endings t)) e
any_at f (c ∷ t) (suc k) e = or_right (f (c ∷ t)) (list_any f (endings t)) (any_at f t k e)

record Found (f : List ℕ → Bool) (t : List ℕ) : Type 0 where
  pub place : ℕ
  pub fits : f (drop place t) ≡ true

found_later : (f : List ℕ → Bool) (c : ℕ) (t : List ℕ) → Found f t → Found f (c ∷ t)
found_later f c t h = record { place = suc h.place; fits = h.fits }

any_found : (f : List ℕ → Bool) (t : List ℕ) → list_any f (endings t) ≡ true → Found f t
any_found f [] e = or_cases (f []) false e (λ h. record { place = 0; fits = h }) (λ h. absurd cc)
any_found f (c ∷ t) e = or_cases (f (c ∷ t)) (list_any f (endings t)) e (λ h. record { place = 0; fits = h }) (λ h. found_later f c t (any_found f t h))

drop_twice : (j k : ℕ) (t : List ℕ) → drop k (drop j t) ≡ drop (k + j) t
drop_twice zero k t = let e : k ≡ k + 0 = omega arith in ap (λ n. drop n t) e
drop_twice (suc j) k [] = drop_all k [] (omega arith) ∙ sym (drop_all (k + suc j) [] (omega arith))
drop_twice (suc j) k (c ∷ t) = let e : suc (k + j) ≡ k + suc j = omega arith in drop_twice j k t ∙ ap (λ n. drop n (c ∷ t)) e

pub fits_at : (p t : List ℕ) (i j k : ℕ) → j ≤ k → fits_from p t i k ≡ true → fits_later p t i j ≡ true
fits_at p t i j k h f =
    let e : (k - j) + j ≡ k = omega (arith, h) in
    let same : drop (k - j) (drop j t) ≡ drop k t = drop_twice j (k - j) t ∙ ap (λ n. drop n t) e in
    any_at (fits (drop i p)) (drop j t) (k - j) (ap (fits (drop i p)) same ∙ f)

-- a place from j on
pub record FitsAt (p t : List ℕ) (i j : ℕ) : Type 0 where
  pub place : ℕ
  pub behind : j ≤ place
  pub fits : fits_from p t i place ≡ true

pub fitting : (p t : List ℕ) (i j : ℕ) → fits_later p t i j ≡ true → FitsAt p t i j
fitting p t i j e =
    let f = any_found (fits (drop i p)) (drop j t) e in
    record { place = f.place + j; behind = omega arith; fits = ap (fits (drop i p)) (sym (drop_twice j f.place t)) ∙ f.fits }

-- ---- one place of the pattern

pub run_fits : (p t : List ℕ) (i j : ℕ) → i < length p → (get_or p i 0 == 37) ≡ true → fits_from p t i j ≡ fits_later p t (i + 1) j
run_fits p t i j h e = let first : drop i p ≡ get_or p i 0 ∷ drop (i + 1) p = drop_more p i 0 h in ap (λ xs. fits xs (drop j t)) first ∙ rw e refl

pub one_fits : (p t : List ℕ) (i j : ℕ) → i < length p → (get_or p i 0 == 37) ≡ false → fits_from p t i j ≡ fits_first (get_or p i 0) (fits (drop (i + 1) p)) (drop j t)
one_fits p t i j h e = let first : drop i p ≡ get_or p i 0 ∷ drop (i + 1) p = drop_more p i 0 h in ap (λ xs. fits xs (drop j t)) first ∙ rw e refl

and_right : (a b : Bool) → (a && b) ≡ true → b ≡ true
and_right true b e = e
and_right false b e = absurd cc

first_true : (q : ℕ) (f : List ℕ → Bool) (l : List ℕ) → fits_first q f l ≡ true → f (drop 1 l) ≡ true
first_true q f [] e = absurd cc
first_true q f (c ∷ rest) e = and_right ((q == 95) || (q == c)) (f rest) e

-- where a place of the pattern isn't a run, what follows it fits one character later
one_on : (p t : List ℕ) (i j : ℕ) → i < length p → (get_or p i 0 == 37) ≡ false → fits_from p t i j ≡ true → fits_from p t (i + 1) (j + 1) ≡ true
one_on p t i j h q e =
    let f = first_true (get_or p i 0) (fits (drop (i + 1) p)) (drop j t) (sym (one_fits p t i j h q) ∙ e) in
    let n : 1 + j ≡ j + 1 = omega arith in
    let rest : drop 1 (drop j t) ≡ drop (j + 1) t = drop_twice j 1 t ∙ ap (λ x. drop x t) n in
    ap (fits (drop (i + 1) p)) (sym rest) ∙ f

one_by : (b : Bool) (q c : ℕ) (f : List ℕ → Bool) (rest : List ℕ) → ((q == 95) || (q == c)) ≡ b → fits_first q f (c ∷ rest) ≡ (b && f rest)
one_by b q c f rest e = ap (λ x. x && f rest) e

one_here : (p t : List ℕ) (i j : ℕ) (b : Bool) → i < length p → (get_or p i 0 == 37) ≡ false → j < length t → ((get_or p i 0 == 95) || (get_or p i 0 == get_or t j 0)) ≡ b → fits_from p t i j ≡ (b && fits_from p t (i + 1) (j + 1))
one_here p t i j b h q l e =
    let first : drop j t ≡ get_or t j 0 ∷ drop (j + 1) t = drop_more t j 0 l in
    one_fits p t i j h q ∙ ap (fits_first (get_or p i 0) (fits (drop (i + 1) p))) first ∙ one_by b (get_or p i 0) (get_or t j 0) (fits (drop (i + 1) p)) (drop (j + 1) t) e

none_here : (p t : List ℕ) (i j : ℕ) → length p ≤ i → j < length t → fits_from p t i j ≡ false
none_here p t i j h l =
    let none : drop i p ≡ [] = drop_all i p h in
    let first : drop j t ≡ get_or t j 0 ∷ drop (j + 1) t = drop_more t j 0 l in
    ap₂ fits none first

-- ---- the search

-- no run was met yet
pub record Fresh (p t : List ℕ) (i j : ℕ) : Type 0 where
  pub whole : fits p t ≡ fits_from p t i j
  pub text : j ≤ length t
  pub pattern : i ≤ length p

-- the last run met ends at r in the pattern, and at s in the text or later: where the rest fits, it fits as far on as the search is
pub record Tried (p t : List ℕ) (i j r s : ℕ) : Type 0 where
  pub whole : fits p t ≡ fits_later p t r s
  pub back : fits_from p t i j ≡ true → fits_from p t r s ≡ true
  pub forth : (k : ℕ) → fits_from p t r k ≡ true → fits_from p t i (k + (j - s)) ≡ true
  pub start : s ≤ j
  pub text : j ≤ length t
  pub behind : r ≤ i
  pub pattern : i ≤ length p

abbrev pub IsSearch : (p t : List ℕ) → Places → Option Places → Type 0
IsSearch p t at None = Fresh p t at.pattern at.text
IsSearch p t at (Some run) = Tried p t at.pattern at.text run.pattern run.text

pub search_inside : (p t : List ℕ) (at : Places) (last : Option Places) → IsSearch p t at last → (at.text ≤ length t) × (at.pattern ≤ length p)
search_inside p t at None s = (s.text, s.pattern)
search_inside p t at (Some run) s = (s.text, s.pattern)

-- a search that begins anew at a place of the text
anew : (p t : List ℕ) (i j : ℕ) → fits p t ≡ fits_later p t i j → j ≤ length t → i ≤ length p → Tried p t i j i j
anew p t i j e l h = record {
  whole = e;
  back = λ f. f;
  start = omega arith;
  text = l;
  behind = omega arith;
  pattern = h;
  forth = λ k f. let n : k ≡ k + (j - j) = omega arith in ap (fits_from p t i) (sym n) ∙ f;
}

run_met : (p t : List ℕ) (i j : ℕ) (at : Places) (last : Option Places) → at.pattern ≡ i → at.text ≡ j → IsSearch p t at last → i < length p → (get_or p i 0 == 37) ≡ true → fits p t ≡ fits_later p t (i + 1) j
run_met p t i j at None a b s h q = s.whole ∙ ap₂ (fits_from p t) a b ∙ run_fits p t i j h q
run_met p t i j at (Some run) a b s h q =
    let t' : Tried p t i j run.pattern run.text = rw (← a, ← b) s in
    t'.whole ∙ both_ways (fits_later p t run.pattern run.text) (fits_later p t (i + 1) j)
    (λ e. let f = fitting p t run.pattern run.text e in
    let g = fitting p t (i + 1) (f.place + (j - run.text)) (sym (run_fits p t i (f.place + (j - run.text)) h q) ∙ t'.forth f.place f.fits) in
    fits_at p t (i + 1) j g.place (omega (arith, f.behind, g.behind, t'.start)) g.fits)
    (λ e. fits_at p t run.pattern run.text run.text (omega arith) (t'.back (run_fits p t i j h q ∙ e)))

pub met_run : (p t : List ℕ) (at : Places) (last : Option Places) → IsSearch p t at last → at.pattern < length p → (get_or p at.pattern 0 == 37) ≡ true → Tried p t (at.pattern + 1) at.text (at.pattern + 1) at.text
met_run p t at last s h q = let (l, m) = search_inside p t at last s in anew p t (at.pattern + 1) at.text (run_met p t at.pattern at.text at last refl refl s h q) l (omega (arith, h))

-- one character fits
shifted : (p t : List ℕ) (i k j s : ℕ) → s ≤ j → fits_from p t i ((k + (j - s)) + 1) ≡ true → fits_from p t i (k + ((j + 1) - s)) ≡ true
shifted p t i k j s h e = let n : (k + (j - s)) + 1 ≡ k + ((j + 1) - s) = omega (arith, h) in ap (fits_from p t i) (sym n) ∙ e

pub met_one : (p t : List ℕ) (at : Places) (last : Option Places) → IsSearch p t at last → at.pattern < length p → (get_or p at.pattern 0 == 37) ≡ false → at.text < length t
    → ((get_or p at.pattern 0 == 95) || (get_or p at.pattern 0 == get_or t at.text 0)) ≡ true → IsSearch p t (record { text = at.text + 1; pattern = at.pattern + 1 }) last
met_one p t at None s h q l e = record { whole = s.whole ∙ one_here p t at.pattern at.text true h q l e; text = omega (arith, l); pattern = omega (arith, h) }
met_one p t at (Some run) s h q l e = record {
  whole = s.whole;
  back = λ f. s.back (one_here p t at.pattern at.text true h q l e ∙ f);
  forth = λ k f. shifted p t (at.pattern + 1) k at.text run.text s.start (one_on p t at.pattern (k + (at.text - run.text)) h q (s.forth k f));
  start = omega (arith, s.start);
  text = omega (arith, l);
  behind = omega (arith, s.behind);
  pattern = omega (arith, h);
}

-- none does
none_by : (p t : List ℕ) (i j : ℕ) (inside : Bool) → nat_lt i (length p) ≡ inside → j < length t → (inside && (get_or p i 0 == 37)) ≡ false → (inside && ((get_or p i 0 == 95) || (get_or p i 0 == get_or t j 0))) ≡ false → fits_from p t i j ≡ false
none_by p t i j true h l a b = let g : i < length p = grind (arith, nat_tests, h) in one_here p t i j false g a l b
none_by p t i j false h l a b = let g : length p ≤ i = grind (arith, nat_tests, h) in none_here p t i j g l

pub met_none : (p t : List ℕ) (i j : ℕ) → j < length t → (nat_lt i (length p) && (get_or p i 0 == 37)) ≡ false → (nat_lt i (length p) && ((get_or p i 0 == 95) || (get_or p i 0 == get_or t j 0))) ≡ false → fits_from p t i j ≡ false
met_none p t i j l a b = none_by p t i j (nat_lt i (length p)) refl l a b

-- so the run is longer
later_by : (f : List ℕ → Bool) (c : ℕ) (rest : List ℕ) → f (c ∷ rest) ≡ false → list_any f (endings (c ∷ rest)) ≡ list_any f (endings rest)
later_by f c rest e = ap (λ b. b || list_any f (endings rest)) e

pub met_longer : (p t : List ℕ) (at run : Places) → IsSearch p t at (Some run) → at.text < length t → fits_from p t at.pattern at.text ≡ false → Tried p t run.pattern (run.text + 1) run.pattern (run.text + 1)
met_longer p t at run s l e =
    let n : run.text + (at.text - run.text) ≡ at.text = omega (arith, s.start) in
    let refuted : (fits_from p t run.pattern run.text ≡ true → ⊥) = λ f. let g : true ≡ false = sym (s.forth run.text f) ∙ ap (fits_from p t at.pattern) n ∙ e in absurd cc in
    let none : fits_from p t run.pattern run.text ≡ false = not_true (fits_from p t run.pattern run.text) refuted in
    let inside : run.text < length t = omega (arith, s.start, l) in
    let first : drop run.text t ≡ get_or t run.text 0 ∷ drop (run.text + 1) t = drop_more t run.text 0 inside in
    let later : fits_later p t run.pattern run.text ≡ fits_later p t run.pattern (run.text + 1) =
    ap (λ u. list_any (fits (drop run.pattern p)) (endings u)) first ∙ later_by (fits (drop run.pattern p)) (get_or t run.text 0) (drop (run.text + 1) t) (ap (fits (drop run.pattern p)) (sym first) ∙ none) in
    anew p t run.pattern (run.text + 1) (s.whole ∙ later) (omega (arith, inside)) (omega (arith, s.behind, s.pattern))

pub met_nothing : (p t : List ℕ) (at : Places) → IsSearch p t at None → fits_from p t at.pattern at.text ≡ false → fits p t ≡ false
met_nothing p t at s e = s.whole ∙ e

-- the text is read
pub text_read : (p t : List ℕ) (at : Places) (last : Option Places) → IsSearch p t at last → length t ≤ at.text → fits p t ≡ fits (drop at.pattern p) []
text_read p t at None s h = s.whole ∙ ap (fits (drop at.pattern p)) (drop_all at.text t h)
text_read p t at (Some run) s h =
    let none : drop at.text t ≡ [] = drop_all at.text t h in
    s.whole ∙ both_ways (fits_later p t run.pattern run.text) (fits (drop at.pattern p) [])
    (λ e. let f = fitting p t run.pattern run.text e in
    let past : drop (f.place + (at.text - run.text)) t ≡ [] = drop_all (f.place + (at.text - run.text)) t (omega (arith, h, f.behind, s.start)) in
    ap (fits (drop at.pattern p)) (sym past) ∙ s.forth f.place f.fits)
    (λ e. fits_at p t run.pattern run.text run.text (omega arith) (s.back (ap (fits (drop at.pattern p)) none ∙ e)))

-- ---- how much is left to try

abbrev pub runs_left : ℕ → ℕ → Option Places → ℕ
runs_left m n None = m + n + 1
runs_left m n (Some run) = (m - run.pattern) + (n - run.text)

abbrev pub left : ℕ → ℕ → Places → Option Places → ℕ
left m n at last = runs_left m n last * (n + 1) + (n - at.text)

fewer : (a b n x y : ℕ) → a < b → x ≤ n → a * (n + 1) + x < b * (n + 1) + y
fewer a b n x y h l = let m : (a + 1) * (n + 1) ≤ b * (n + 1) = mul-le-mul_right (n + 1) (omega (arith, h)) in omega (arith, m, l)

pub less_after_run : (p t : List ℕ) (at : Places) (last : Option Places) (m n : ℕ) → m ≡ length p → n ≡ length t → IsSearch p t at last → at.pattern < length p → left m n (record { text = at.text; pattern = at.pattern + 1 }) (Some (record { text = at.text; pattern = at.pattern + 1 })) < left m n at last
less_after_run p t at None m n a b s h = fewer ((m - (at.pattern + 1)) + (n - at.text)) (m + n + 1) n (n - at.text) (n - at.text) (omega arith) (omega arith)
less_after_run p t at (Some run) m n a b s h = fewer ((m - (at.pattern + 1)) + (n - at.text)) ((m - run.pattern) + (n - run.text)) n (n - at.text) (n - at.text) (omega (arith, a, h, s.behind, s.start)) (omega arith)

pub less_after_longer : (p t : List ℕ) (at run : Places) (m n : ℕ) → m ≡ length p → n ≡ length t → IsSearch p t at (Some run) → at.text < length t → left m n (record { text = run.text + 1; pattern = run.pattern }) (Some (record { text = run.text + 1; pattern = run.pattern })) < left m n at (Some run)
less_after_longer p t at run m n a b s l = fewer ((m - run.pattern) + (n - (run.text + 1))) ((m - run.pattern) + (n - run.text)) n (n - (run.text + 1)) (n - at.text) (omega (arith, b, l, s.start)) (omega arith)

-- ---- what tests tell

inside_by : (i m : ℕ) (inside b : Bool) → nat_lt i m ≡ inside → (inside && b) ≡ true → (i < m) × (b ≡ true)
inside_by i m true b h e = let g : i < m = grind (arith, nat_tests, h) in (g, e)
inside_by i m false b h e = absurd cc

pub inside_true : (i m : ℕ) (b : Bool) → (nat_lt i m && b) ≡ true → (i < m) × (b ≡ true)
inside_true i m b e = inside_by i m (nat_lt i m) b refl e

false_by : (inside b : Bool) → inside ≡ true → (inside && b) ≡ false → b ≡ false
false_by true b h e = e
false_by false b h e = absurd cc

pub inside_false : (i m : ℕ) (b : Bool) → i < m → (nat_lt i m && b) ≡ false → b ≡ false
inside_false i m b h e = let g : nat_lt i m ≡ true = grind (arith, nat_tests, h) in false_by (nat_lt i m) b g e

-- ---- the end of a text

or_none : (b : Bool) → (b || false) ≡ b
or_none true = refl
or_none false = refl

pub end_run : (p : List ℕ) (i : ℕ) → i < length p → (get_or p i 0 == 37) ≡ true → fits (drop i p) [] ≡ fits (drop (i + 1) p) []
end_run p i h q = let first : drop i p ≡ get_or p i 0 ∷ drop (i + 1) p = drop_more p i 0 h in ap (λ xs. fits xs []) first ∙ rw q (or_none (fits (drop (i + 1) p) []))

pub end_other : (p : List ℕ) (i : ℕ) → i < length p → (get_or p i 0 == 37) ≡ false → fits (drop i p) [] ≡ false
end_other p i h q = let first : drop i p ≡ get_or p i 0 ∷ drop (i + 1) p = drop_more p i 0 h in ap (λ xs. fits xs []) first ∙ rw q refl
