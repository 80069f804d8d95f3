-- Units that are remembered, and lines that are there.
use Rattle.std.proofs.Common.{◌≡◌, ◌∙◌, refl, sym, ap, subst, ℕ, ℤ, zero, suc, ◌^◌, ◌<◌, List, [], ◌∷◌, ◌++◌, Bool, true, false, cond, drop, replicate, slice_set, take, int_eq, arith, true≢false}
use Rattle.std.specs.Prelude.{◌||◌, nat_abs, nat_eq, slice_range, FitsSigned, OnOk, Result, Ok, Err}
use Rattle.std.specs.Cmp.Lexicographic.{pointwise}
use Rattle.std.specs.Int.{w64}
use Rattle.std.specs.List.{list_any}
use Rattle.std.proofs.lemmas.Bool.Decides.{Decides-int_eq}
use Rattle.std.proofs.lemmas.Cmp.{nat_list_eq_equiv}
use Rattle.std.proofs.lemmas.Int.{ints}
use Rattle.std.proofs.lemmas.List.Folds.{list_any-append}
use Rattle.definitions_answers.specs.Lines.{with_line}
use Rattle.result_lines.specs.Lines.{has_line}
use Rattle.result_lines.specs.SeenUnits.{has_unit}

-- ---- either of two

right : (a b : Bool) → b ≡ true → (a || b) ≡ true
right true b e = refl
right false b e = e

left : (a b : Bool) → a ≡ true → (a || b) ≡ true
left true b e = refl
left false b e = absurd (true≢false (sym e))

either : (P : Type 0) (a b : Bool) → (a || b) ≡ true → (a ≡ true → P) → (b ≡ true → P) → P
either P true b e f g = f refl
either P false b e f g = g e

-- ---- lists that have an element

module _ {X : Type 0} (p : X → Bool) where
  pub any_replaced : (xs : List X) (i : ℕ) (x : X) → list_any p (slice_set xs i x) ≡ true → (p x || list_any p xs) ≡ true
  any_replaced [] i x h = right (p x) false h
  any_replaced (y ∷ xs) zero x h = either ((p x || (p y || list_any p xs)) ≡ true) (p x) (list_any p xs) h (left (p x) _) (λ e. right (p x) _ (right (p y) _ e))
  any_replaced (y ∷ xs) (suc i) x h =
      either ((p x || (p y || list_any p xs)) ≡ true) (p y) (list_any p (slice_set xs i x)) h (λ e. right (p x) _ (left (p y) _ e))
      (λ e. either ((p x || (p y || list_any p xs)) ≡ true) (p x) (list_any p xs) (any_replaced xs i x e) (left (p x) _) (λ f. right (p x) _ (right (p y) _ f)))

  pub any_filled : (n : ℕ) (x : X) → list_any p (replicate n x) ≡ true → p x ≡ true
  any_filled zero x h = absurd (true≢false (sym h))
  any_filled (suc n) x h = either (p x ≡ true) (p x) (list_any p (replicate n x)) h (λ e. e) (any_filled n x)

  any_taken : (n : ℕ) (xs : List X) → list_any p (take n xs) ≡ true → list_any p xs ≡ true
  any_taken zero xs h = absurd (true≢false (sym h))
  any_taken (suc n) [] h = h
  any_taken (suc n) (x ∷ xs) h = either ((p x || list_any p xs) ≡ true) (p x) (list_any p (take n xs)) h (left (p x) _) (λ e. right (p x) _ (any_taken n xs e))

  any_behind : (n : ℕ) (xs : List X) → list_any p (drop n xs) ≡ true → list_any p xs ≡ true
  any_behind zero xs h = h
  any_behind (suc n) [] h = h
  any_behind (suc n) (x ∷ xs) h = right (p x) _ (any_behind n xs h)

  pub any_again : (xs : List X) (from to : ℕ) → list_any p (xs ++ slice_range xs from to) ≡ true → list_any p xs ≡ true
  any_again xs from to h =
      either (list_any p xs ≡ true) (list_any p xs) (list_any p (slice_range xs from to)) (sym (list_any-append p xs (slice_range xs from to)) ∙ h) (λ e. e) (λ e. any_behind from xs (any_taken _ (drop from xs) e))

-- ---- lines that are there

pub line_stays : (lines : List (List ℕ)) (line other : List ℕ) → has_line lines other ≡ true → has_line (with_line lines line) other ≡ true
line_stays lines line other h = step (has_line lines line)
  where
    step : (t : Bool) → has_line (cond t lines (lines ++ line ∷ [])) other ≡ true
    step true = h
    step false = list_any-append (pointwise nat_eq other) lines (line ∷ []) ∙ left (has_line lines other) _ h

pub line_added : (lines : List (List ℕ)) (line : List ℕ) → has_line (with_line lines line) line ≡ true
line_added lines line = step (has_line lines line) refl
  where
    step : (t : Bool) → has_line lines line ≡ t → has_line (cond t lines (lines ++ line ∷ [])) line ≡ true
    step true e = e
    step false e = list_any-append (pointwise nat_eq line) lines (line ∷ []) ∙ right (has_line lines line) _ (left (pointwise nat_eq line line) false (nat_list_eq_equiv.refl line))

-- one that is there is not added
pub line_repeats : (lines : List (List ℕ)) (line : List ℕ) → has_line lines line ≡ true → lines ≡ with_line lines line
line_repeats lines line h = sym (ap (λ t. cond t lines (lines ++ line ∷ [])) h)

-- ---- units that are remembered

-- one more is noted: each that is remembered then is this one, or was remembered
pub later : (units : List ℤ) (unit other : ℤ) → has_unit units other ≡ true → has_unit (unit ∷ units) other ≡ true
later units unit other h = right (int_eq other unit) (has_unit units other) h

pub filled : (units places : List ℤ) (kept more : ℕ) (unit own : ℤ) → own ≡ unit → places ≡ take kept units ++ replicate more own
    → (other : ℤ) → has_unit places other ≡ true → has_unit (unit ∷ units) other ≡ true
filled units places kept more unit own e are other h =
    either (has_unit (unit ∷ units) other ≡ true) (has_unit (take kept units) other) (has_unit (replicate more own) other)
    (sym (list_any-append (int_eq other) (take kept units) (replicate more own)) ∙ subst (λ us. has_unit us other ≡ true) are h)
    (λ k. later units unit other (any_taken (int_eq other) kept units k))
    (λ k. left (int_eq other unit) (has_unit units other) (subst (λ u. int_eq other u ≡ true) e (any_filled (int_eq other) more own k)))

pub repeated : (units places : List ℤ) (from to : ℕ) (unit : ℤ) → places ≡ units ++ slice_range units from to
    → (other : ℤ) → has_unit places other ≡ true → has_unit (unit ∷ units) other ≡ true
repeated units places from to unit are other h = later units unit other (any_again (int_eq other) units from to (subst (λ us. has_unit us other ≡ true) are h))

pub placed : (units between : List ℤ) (place : ℕ) (unit own : ℤ) → own ≡ unit → ((other : ℤ) → has_unit between other ≡ true → has_unit (unit ∷ units) other ≡ true)
    → (other : ℤ) → has_unit (slice_set between place own) other ≡ true → has_unit (unit ∷ units) other ≡ true
placed units between place unit own e kept other h =
    either (has_unit (unit ∷ units) other ≡ true) (int_eq other own) (has_unit between other) (any_replaced (int_eq other) between place own h)
    (λ k. left (int_eq other unit) (has_unit units other) (subst (λ u. int_eq other u ≡ true) e k)) (kept other)

-- what is true of all, and of one more that is noted, is true of those that are remembered then
pub all_noted : (P : ℤ → Type 0) (units after : List ℤ) (unit : ℤ) → ((other : ℤ) → has_unit after other ≡ true → has_unit (unit ∷ units) other ≡ true)
    → ((other : ℤ) → has_unit units other ≡ true → P other) → P unit → (other : ℤ) → has_unit after other ≡ true → P other
all_noted P units after unit noted all own other h =
    either (P other) (int_eq other unit) (has_unit units other) (noted other h) (λ e. subst P (sym ((Decides-int_eq other unit).0 e)) own) (all other)

pub in_bounds : (unit : ℤ) → FitsSigned w64 unit → nat_abs unit < 10 ^ 38
in_bounds unit h = grind (arith, ints, h)

-- ---- what is told where nothing went wrong

pub always : {X E : Type 0} {P : Type 0} (r : Result X E) → P → OnOk r P
always (Ok x) p = p
always (Err e) p = tt

pub both : {X E : Type 0} {P Q R : Type 0} (r : Result X E) → OnOk r P → OnOk r Q → (P → Q → R) → OnOk r R
both (Ok x) p q f = f p q
both (Err e) p q f = tt
