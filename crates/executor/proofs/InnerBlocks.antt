-- Blocks within blocks: what is asked one after another stays told, and what was told serves the conditions around.
use Rattle.std.proofs.Common.{◌≡◌, ◌∙◌, refl, sym, ap, subst, inl, inr, ℕ, zero, suc, ◌+◌, ◌<◌, ◌≤◌, List, [], ◌∷◌, Option, Some, None, length, map, set, take, get_or, arith, min}
use Rattle.std.specs.Prelude.{◌⊎◌, Bool, true, false, not, slice_get, sum_by, Contains, Result, Ok, Err}
use Rattle.std.specs.List.{list_any, AllByRecursion}
use Rattle.std.proofs.Common.{nat_eq, true≢false}
use Rattle.std.proofs.lemmas.Bool.Decides.{nat_tests}
use Rattle.std.proofs.lemmas.List.Folds.{list_any_at}
use Rattle.std.proofs.lemmas.List.{length-set, take_more}
use Rattle.std.proofs.lemmas.List.Sums.{sum_by-append, sum_by-cons}
use Rattle.definitions.specs.Value.{Value, Null}
use Rattle.definitions.specs.ValueType.{ValueType, HasValueType}
use Rattle.definitions.specs.Arithmetic.{Raise, Meaning, Is, Raises}
use Rattle.definitions.specs.Table.{Database, Row}
use Rattle.definitions.specs.Plans.Cost.{limit, saturated}
use Rattle.definitions.specs.Estimates.Version.{current_version}
use Rattle.definitions.specs.Queries.Evaluation.{Combination, column_values}
use Rattle.definitions.specs.Queries.Laws.{MeansRows}
use Rattle.definitions.specs.Queries.Answer.{meanings}
use Rattle.definitions_answers.specs.Kept.{IsRight, Kept}
use Rattle.definitions_answers.specs.Told.{meaning_told, values_asked, Tells, TellsAsked}
use Rattle.definitions_answers.proofs.Reordered.{reordered}
use Rattle.definitions_answers.proofs.Taken.{all_arranged, all_joined}
use Rattle.subqueries.specs.BlockText.{Rising}
use Rattle.subqueries.specs.Keeping.{last_of_option, places_in, told_by, told_last, AllKept, AreLeftOut, Replaces}
use Rattle.subqueries.specs.declared.kept_results.KeptResults.{KeptResults}
use Rattle.subqueries.proofs.KeptPlaces.{fewer_are_kept, left_out_at, left_out_count, left_out_told, one_more_is_kept, same_are_kept, told_by_is}
use Rattle.executor.specs.ReadyBlocks.{blocks_in, database_in, plans_in, AreLeft, AreRight, IsToldLast}
use Rattle.executor.specs.declared.ready_block.ReadyBlock.{ReadyBlock}

-- ---- lists by their places

set_here : {X : Type 0} (xs : List X) (i : ℕ) (x y : X) → slice_get xs i ≡ Some y → slice_get (set xs i x) i ≡ Some x
set_here [] i x y e = absurd cc
set_here (z ∷ xs) zero x y e = refl
set_here (z ∷ xs) (suc i) x y e = set_here xs i x y e

set_elsewhere : {X : Type 0} (xs : List X) (i j : ℕ) (x : X) → (j < i) ⊎ (i < j) → slice_get (set xs i x) j ≡ slice_get xs j
set_elsewhere [] i j x h = refl
set_elsewhere (z ∷ xs) zero zero x (inl h) = absurd (omega (arith, h))
set_elsewhere (z ∷ xs) zero zero x (inr h) = absurd (omega (arith, h))
set_elsewhere (z ∷ xs) zero (suc j) x h = refl
set_elsewhere (z ∷ xs) (suc i) zero x h = refl
set_elsewhere (z ∷ xs) (suc i) (suc j) x (inl h) = set_elsewhere xs i j x (inl (omega (arith, h)))
set_elsewhere (z ∷ xs) (suc i) (suc j) x (inr h) = set_elsewhere xs i j x (inr (omega (arith, h)))

same_or_other : (i j : ℕ) → (i ≡ j) ⊎ ((j < i) ⊎ (i < j))
same_or_other zero zero = inl refl
same_or_other zero (suc j) = inr (inr (omega arith))
same_or_other (suc i) zero = inr (inl (omega arith))
same_or_other (suc i) (suc j) = further (same_or_other i j)
  where
    further : (i ≡ j) ⊎ ((j < i) ⊎ (i < j)) → (suc i ≡ suc j) ⊎ ((suc j < suc i) ⊎ (suc i < suc j))
    further (inl e) = inl (ap suc e)
    further (inr (inl h)) = inr (inl (omega (arith, h)))
    further (inr (inr h)) = inr (inr (omega (arith, h)))

pub some_is : {X : Type 0} (x y : X) → Some x ≡ Some y → x ≡ y
some_is {X} x y e = ap (λ (o : Option X). given o) e
  where
    given : Option X → X
    given None = x
    given (Some z) = z

pub at_place : {X : Type 0} (P : X → Type 0) (xs : List X) (i : ℕ) (x : X) → AllByRecursion P xs → slice_get xs i ≡ Some x → P x
at_place P [] i x h e = absurd cc
at_place P (y ∷ xs) zero x h e = subst P (some_is y x e) h.0
at_place P (y ∷ xs) (suc i) x h e = at_place P xs i x h.1 e

module _ (query : List ReadyBlock) where
  abbrev db : Database
  db = database_in query

  abbrev Right : ℕ → Kept → Type 0
  Right number = IsRight current_version db (blocks_in query) (plans_in query) number

  -- ---- one block's results change

  module _ (results : List KeptResults) (number : ℕ) (old new : KeptResults) (at_place : slice_get results number ≡ Some old) (right : AreRight query results) where
    right_at : (own : AllKept (Right number) new) → AreRight query (set results number new)
    right_at own = record { count = length-set results number new ∙ right.count; each = λ n r e. by_place n r e (same_or_other number n) }
      where
        by_place : (n : ℕ) (r : KeptResults) → slice_get (set results number new) n ≡ Some r → (number ≡ n) ⊎ ((n < number) ⊎ (number < n)) → AllKept (Right n) r
        by_place n r e (inl same) =
            subst (λ k. AllKept (Right k) r) same
            (subst (AllKept (Right number)) (some_is new r (sym (set_here results number new old at_place) ∙ ap (slice_get (set results number new)) same ∙ e)) own)
        by_place n r e (inr other) = right.each n r (sym (set_elsewhere results number n new other) ∙ e)

    pub kept_same : places_in new ≡ places_in old → AllKept (Right number) new
    kept_same e = same_are_kept (Right number) old new e (right.each number old at_place)

    pub right_same : places_in new ≡ places_in old → AreRight query (set results number new)
    right_same e = right_at (same_are_kept (Right number) old new e (right.each number old at_place))

    pub right_with : (kept : Kept) → Replaces (places_in old) (places_in new) kept → Right number kept → AreRight query (set results number new)
    right_with kept r k = right_at (one_more_is_kept (Right number) old new kept r (right.each number old at_place) k)

    pub told_here : told_by (set results number new) number ≡ told_last new
    told_here = told_by_is (set results number new) number new (set_here results number new old at_place)

    pub left_below : AreLeft query number results (set results number new)
    left_below = λ n h. ap last_of_option (set_elsewhere results number n new (inl h))

  pub left_twice : (below : ℕ) (a b c : List KeptResults) → AreLeft query below a b → AreLeft query below b c → AreLeft query below a c
  left_twice below a b c h k = λ n l. k n l ∙ h n l

  pub left_less : (below less : ℕ) (a b : List KeptResults) → less ≤ below → AreLeft query below a b → AreLeft query less a b
  left_less below less a b l h = λ n m. h n (omega (arith, l, m))

  -- ---- only the latest results are left

  pub left_out_left : (below : ℕ) (a b : List KeptResults) → AreLeftOut a b → AreLeft query below a b
  left_out_left below a b all = λ n l. left_out_told a b n all

  pub left_out_right : (a b : List KeptResults) → AreLeftOut a b → AreRight query a → AreRight query b
  left_out_right a b all right = record {
    count = left_out_count a b all ∙ right.count;
    each = λ n own e. let was = left_out_at a b n own all e in fewer_are_kept (Right n) was.0 own was.2 (right.each n was.0 was.1);
  }

  pub left_nothing : (below : ℕ) (a : List KeptResults) → AreLeft query below a a
  left_nothing below a = λ n l. refl

  -- ---- what was told stays told while blocks of no smaller numbers are asked

  module _ (seen : List ℕ) (outer : List Combination) where
    abbrev Told : List KeptResults → ℕ → Type 0
    Told results = IsToldLast query seen outer results

    stays_one : (below n : ℕ) (results results' : List KeptResults) → AreLeft query below results results' → n < below → Told results n → Told results' n
    stays_one below n results results' left h told = subst (λ t. TellsAsked seen (meanings db 0 (blocks_in query) n outer) t n) (sym (left n h)) told

    pub stays_all : (j : ℕ) (ns : List ℕ) (results results' : List KeptResults) → AreLeft query j results results' → AllByRecursion (λ n. n ≤ j) ns → AllByRecursion (Told results) ns → Told results' j → AllByRecursion (Told results') ns
    stays_all j [] results results' left h told new = tt
    stays_all j (n ∷ ns) results results' left h told new = (by_place (same_or_other j n), stays_all j ns results results' left h.1 told.1 new)
      where
        by_place : (j ≡ n) ⊎ ((n < j) ⊎ (j < n)) → Told results' n
        by_place (inl same) = subst (Told results') same new
        by_place (inr (inl below)) = stays_one j n results results' left below told.0
        by_place (inr (inr above)) = absurd (omega (arith, above, h.0))

-- ---- numbers that never fall

first_least : (n : ℕ) (ms : List ℕ) → Rising (n ∷ ms) → AllByRecursion (λ m. n ≤ m) ms
first_least n [] h = tt
first_least n (m ∷ ms) h = (h.0, weaker ms (first_least m ms h.1))
  where
    weaker : (ks : List ℕ) → AllByRecursion (λ k. m ≤ k) ks → AllByRecursion (λ k. n ≤ k) ks
    weaker [] w = tt
    weaker (k ∷ ks) w = (omega (arith, h.0, w.0), weaker ks w.1)

rest_rises : (n : ℕ) (ms : List ℕ) → Rising (n ∷ ms) → Rising ms
rest_rises n [] h = tt
rest_rises n (m ∷ ms) h = h.1

least_at : (n : ℕ) (ms : List ℕ) (i x : ℕ) → AllByRecursion (λ m. n ≤ m) ms → i < length ms → x ≡ get_or ms i x → n ≤ x
least_at n [] i x h l e = absurd (omega (arith, l))
least_at n (m ∷ ms) zero x h l e = let k : n ≤ m = h.0 in omega (arith, k, e)
least_at n (m ∷ ms) (suc i) x h l e = least_at n ms i x h.1 (omega (arith, l)) e

pub rising_before : (ns : List ℕ) (i x : ℕ) → Rising ns → i < length ns → x ≡ get_or ns i x → AllByRecursion (λ n. n ≤ x) (take i ns)
rising_before [] i x h l e = absurd (omega (arith, l))
rising_before (n ∷ ns) zero x h l e = tt
rising_before (n ∷ ns) (suc i) x h l e = (least_at n ns i x (first_least n ns h) (omega (arith, l)) e, rising_before ns i x (rest_rises n ns h) (omega (arith, l)) e)

-- ---- sums that stop at the limit

stops : (a b m : ℕ) → min (min a m + min b m) m ≡ min (a + b) m
stops a b m = omega arith

pub one_more : (so_far more whole : ℕ) → whole ≡ so_far + more → saturated (saturated so_far + saturated more) ≡ saturated whole
one_more so_far more whole e = stops so_far more limit ∙ ap saturated (sym e)

-- ---- types of what is told

values_typed : (type : ValueType) (rows : List Row) → AllByRecursion (λ (row : Row). HasValueType type (get_or row 0 Null)) rows → AllByRecursion (HasValueType type) (column_values rows)
values_typed type [] h = tt
values_typed type (row ∷ rows) h = (h.0, values_typed type rows h.1)

rows_typed : (type : ValueType) (values : List Value) → AllByRecursion (HasValueType type) values → MeansRows type (Is (map (λ v. v ∷ []) values))
rows_typed type [] h = tt
rows_typed type (v ∷ vs) h = (h.0, rows_typed type vs h.1)

asked_typed : (existence : Bool) (type : ValueType) (rows : List Row) → AllByRecursion (λ (row : Row). HasValueType type (get_or row 0 Null)) rows → AllByRecursion (HasValueType type) (values_asked existence rows)
asked_typed false type rows h = values_typed type rows h
asked_typed true type [] h = tt
asked_typed true type (row ∷ rows) h = (tt, tt)

told_typed : (existence : Bool) (type : ValueType) (m : Meaning (List Row)) (told : Result (List Value) Raise) → MeansRows type m → Tells existence m told → MeansRows type (meaning_told told)
told_typed existence type (Is rows) (Ok values) h tells = rows_typed type values (all_arranged (HasValueType type) (values_asked existence rows) values (reordered (values_asked existence rows) values tells) (asked_typed existence type rows h))
told_typed existence type (Raises r rs) (Err e) h tells = tt
told_typed existence type (Is rows) (Err e) h tells = absurd tells
told_typed existence type (Raises r rs) (Ok values) h tells = absurd tells

pub what_is_asked_typed : (seen : List ℕ) (type : ValueType) (m : Meaning (List Row)) (told : Result (List Value) Raise) (n : ℕ) → MeansRows type m → TellsAsked seen m told n → MeansRows type (meaning_told told)
what_is_asked_typed seen type m told n h (inl tells) = told_typed false type m told h tells
what_is_asked_typed seen type m told n h (inr (none, tells)) = told_typed true type m told h tells

-- a block whose values aren't seen is asked whether it has a row
not_among : (ns : List ℕ) (n : ℕ) → list_any (λ y. nat_eq y n) ns ≡ false → Contains ns n → ⊥
not_among ns n none (k, within, there) = true≢false (sym (list_any_at (λ y. nat_eq y n) ns k n within (grind (arith, nat_tests, there))) ∙ none)

pub as_much_as_asked : (seen : List ℕ) (m : Meaning (List Row)) (told : Result (List Value) Raise) (n : ℕ) (among : Bool) → among ≡ list_any (λ y. nat_eq y n) seen → Tells (not among) m told → TellsAsked seen m told n
as_much_as_asked seen m told n true is tells = inl tells
as_much_as_asked seen m told n false is tells = inr (not_among seen n (sym is), tells)

-- ---- elements by their places

pub at_index : (P : ℕ → Type 0) (xs : List ℕ) (i : ℕ) → AllByRecursion P xs → i < length xs → P (get_or xs i 0)
at_index P [] i h l = absurd (omega (arith, l))
at_index P (x ∷ xs) zero h l = h.0
at_index P (x ∷ xs) (suc i) h l = at_index P xs i h.1 (omega (arith, l))

pub one_later : (P : ℕ → Type 0) (xs : List ℕ) (i : ℕ) → AllByRecursion P (take i xs) → i < length xs → P (get_or xs i 0) → AllByRecursion P (take (i + 1) xs)
one_later P xs i h l p = subst (AllByRecursion P) (sym (take_more xs i 0 l)) (all_joined P (take i xs) (get_or xs i 0 ∷ []) h (p, tt))

pub sum_later : (f : ℕ → ℕ) (xs : List ℕ) (i : ℕ) → i < length xs → sum_by f (take (i + 1) xs) ≡ sum_by f (take i xs) + f (get_or xs i 0)
sum_later f xs i l =
    ap (sum_by f) (take_more xs i 0 l) ∙ sum_by-append f (take i xs) (get_or xs i 0 ∷ [])
    ∙ ap (λ n. sum_by f (take i xs) + n) (sum_by-cons f (get_or xs i 0) [] ∙ omega arith)

pub index_is : (xs : List ℕ) (i : ℕ) → i < length xs → get_or xs i 0 ≡ get_or xs i (get_or xs i 0)
index_is [] i l = absurd (omega (arith, l))
index_is (x ∷ xs) zero l = refl
index_is (x ∷ xs) (suc i) l = index_is xs i (omega (arith, l))

pub sum_stops : (so_far more whole : ℕ) → whole ≡ so_far + more → saturated (saturated so_far + more) ≡ saturated whole
sum_stops so_far more whole e = stops_left so_far more limit ∙ ap saturated (sym e)
  where
    stops_left : (a b m : ℕ) → min (min a m + b) m ≡ min (a + b) m
    stops_left a b m = omega arith
