-- What is kept, place by place.
use Rattle.std.proofs.Common.{◌≡◌, ◌∙◌, refl, sym, ap, subst, ℕ, zero, suc, ◌<◌, List, [], ◌∷◌, ◌++◌, Option, Some, None, length, map, get_or, set, inl, inr, arith}
use Rattle.std.specs.Prelude.{◌⊎◌, Bool, IfSome, option_and_then, option_map, slice_get}
use Rattle.std.specs.List.{AllByRecursion}
use Rattle.std.proofs.lemmas.List.{get_or-set_same, get_or-set_other, length-map, map-set}
use Rattle.definitions.specs.Table.{Database}
use Rattle.definitions.specs.Plans.Plan.{Plan}
use Rattle.definitions.specs.Queries.Answer.{meanings}
use Rattle.definitions.specs.Queries.BoundBlock.{Blocks}
use Rattle.definitions.specs.Queries.Evaluation.{Combination}
use Rattle.definitions.specs.Estimates.Version.{Version}
use Rattle.definitions_execution.specs.Total.{totals}
use Rattle.definitions_answers.specs.Kept.{Kept, IsRight}
use Rattle.definitions_answers.specs.Parameters.{outer_values, parameters}
use Rattle.definitions_answers.specs.Told.{Tells}
use Rattle.subqueries.specs.Keeping.{kept_at, kept_in, last_of_option, latest_in, latest_key, latest_total, places_in, told_by, told_last, told_of_option, AllKept, AreLeftOut, LeavesOut, Replaces}
use Rattle.subqueries.specs.declared.kept_results.KeptResult.{KeptResult}
use Rattle.subqueries.specs.declared.kept_results.KeptResults.{KeptResults}

-- ---- one place

pub place_set : (places : List (Option KeptResult)) (i : ℕ) (x : KeptResult) → i < length places → get_or (map (option_map kept_in) (set places i (Some x))) i None ≡ Some (kept_in x)
place_set places i x h =
    ap (λ all. get_or all i None) (map-set (option_map kept_in) places i (Some x))
    ∙ get_or-set_same (map (option_map kept_in) places) i (Some (kept_in x)) None (subst (λ n. i < n) (sym (length-map places (option_map kept_in))) h)

pub still_empty : (places : List (Option Kept)) → AllByRecursion (λ place. place ≡ None) places → AllByRecursion (λ place. place ≡ None) (places ++ None ∷ [])
still_empty [] h = (refl, tt)
still_empty (p ∷ ps) h = (h.0, still_empty ps h.1)

-- ---- what holds of all that is kept

module _ (P : Kept → Type 0) where
  abbrev InPlace : Option Kept → Type 0
  InPlace place = IfSome place P

  all_set : (places : List (Option Kept)) (i : ℕ) (kept : Kept) → AllByRecursion InPlace places → P kept → AllByRecursion InPlace (set places i (Some kept))
  all_set [] i kept h k = tt
  all_set (p ∷ ps) zero kept h k = (k, h.1)
  all_set (p ∷ ps) (suc i) kept h k = (h.0, all_set ps i kept h.1 k)

  at_place : (places : List (Option Kept)) (i : ℕ) → AllByRecursion InPlace places → InPlace (get_or places i None)
  at_place [] i h = tt
  at_place (p ∷ ps) zero h = h.0
  at_place (p ∷ ps) (suc i) h = at_place ps i h.1

  none_in_place : (places : List (Option Kept)) → AllByRecursion (λ place. place ≡ None) places → AllByRecursion InPlace places
  none_in_place [] h = tt
  none_in_place (p ∷ ps) h = (subst InPlace (sym h.0) tt, none_in_place ps h.1)

  -- of none; after a result was looked for; and with one more that it holds of
  pub none_is_kept : (r : KeptResults) → AllByRecursion (λ place. place ≡ None) (places_in r) → AllKept P r
  none_is_kept r h = none_in_place (places_in r) h

  pub same_are_kept : (old new : KeptResults) → places_in new ≡ places_in old → AllKept P old → AllKept P new
  same_are_kept old new e h = subst (AllByRecursion InPlace) (sym e) h

  pub one_more_is_kept : (old new : KeptResults) (kept : Kept) → Replaces (places_in old) (places_in new) kept → AllKept P old → P kept → AllKept P new
  one_more_is_kept old new kept r h k = subst (AllByRecursion InPlace) (sym r.1) (all_set (places_in old) r.0 kept h k)

  by_places : (places : List (Option Kept)) → ((i : ℕ) → InPlace (get_or places i None)) → AllByRecursion InPlace places
  by_places [] each = tt
  by_places (p ∷ ps) each = (each 0, by_places ps (λ i. each (suc i)))

  pub fewer_are_kept : (old new : KeptResults) → LeavesOut old new → AllKept P old → AllKept P new
  fewer_are_kept old new left h = by_places (places_in new) (λ i. of i (left.0 i))
    where
      of : (i : ℕ) → (kept_at new i ≡ None) ⊎ (kept_at new i ≡ kept_at old i) → InPlace (kept_at new i)
      of i (inl empty) = subst InPlace (sym empty) tt
      of i (inr same) = subst InPlace (sym same) (at_place (places_in old) i h)

  pub latest_is_kept : (r : KeptResults) → AllKept P r → IfSome (latest_in r) P
  latest_is_kept r h = at_place (places_in r) r.latest h

-- ---- fewer results

pub none_left_out : (r : KeptResults) → LeavesOut r r
none_left_out r = (λ place. inr refl, refl)

pub left_out_twice : (a b c : KeptResults) → LeavesOut a b → LeavesOut b c → LeavesOut a c
left_out_twice a b c h k = (λ place. of place (k.0 place), k.1 ∙ h.1)
  where
    further : (place : ℕ) → kept_at c place ≡ kept_at b place → (kept_at b place ≡ None) ⊎ (kept_at b place ≡ kept_at a place) → (kept_at c place ≡ None) ⊎ (kept_at c place ≡ kept_at a place)
    further place e (inl empty) = inl (e ∙ empty)
    further place e (inr same) = inr (e ∙ same)

    of : (place : ℕ) → (kept_at c place ≡ None) ⊎ (kept_at c place ≡ kept_at b place) → (kept_at c place ≡ None) ⊎ (kept_at c place ≡ kept_at a place)
    of place (inl empty) = inl empty
    of place (inr same) = further place same (h.0 place)

-- a place that isn't the latest's is emptied
get_emptied : {X : Type 0} (xs : List (Option X)) (i j : ℕ) → (get_or (set xs i None) j None ≡ None) ⊎ (get_or (set xs i None) j None ≡ get_or xs j None)
get_emptied [] i j = inr refl
get_emptied (x ∷ xs) zero zero = inl refl
get_emptied (x ∷ xs) zero (suc j) = inr refl
get_emptied (x ∷ xs) (suc i) zero = inr refl
get_emptied (x ∷ xs) (suc i) (suc j) = get_emptied xs i j

pub one_emptied : (old : KeptResults) (i : ℕ) (items : List (Option KeptResult)) → items ≡ set old.places.items i None → (old.latest ≡ i → ⊥)
    → ((place : ℕ) → (get_or (map (option_map kept_in) items) place None ≡ None) ⊎ (get_or (map (option_map kept_in) items) place None ≡ kept_at old place))
    × (get_or (map (option_map kept_in) items) old.latest None ≡ latest_in old)
one_emptied old i items is other = (
  λ place. subst (λ xs. (get_or xs place None ≡ None) ⊎ (get_or xs place None ≡ kept_at old place)) (sym places) (get_emptied (places_in old) i place),
  ap (λ xs. get_or xs old.latest None) places ∙ get_or-set_other (places_in old) i old.latest None None other,
)
  where
    places : map (option_map kept_in) items ≡ set (places_in old) i None
    places = ap (map (option_map kept_in)) is ∙ map-set (option_map kept_in) old.places.items i None

pub none_left_out_of_any : (rs : List KeptResults) → AreLeftOut rs rs
none_left_out_of_any [] = tt
none_left_out_of_any (r ∷ rs) = (none_left_out r, none_left_out_of_any rs)

pub left_out_of_one : (rs ss : List KeptResults) (i : ℕ) (own new : KeptResults) → i < length ss → own ≡ get_or ss i own → LeavesOut own new → AreLeftOut rs ss → AreLeftOut rs (set ss i new)
left_out_of_one [] [] i own new h e l all = tt
left_out_of_one [] (s ∷ ss) i own new h e l all = absurd all
left_out_of_one (r ∷ rs) [] i own new h e l all = absurd all
left_out_of_one (r ∷ rs) (s ∷ ss) zero own new h e l all = (left_out_twice r s new all.0 (subst (λ x. LeavesOut x new) e l), all.1)
left_out_of_one (r ∷ rs) (s ∷ ss) (suc i) own new h e l all = (all.0, left_out_of_one rs ss i own new (omega (arith, h)) e l all.1)

pub left_out_count : (rs ss : List KeptResults) → AreLeftOut rs ss → length ss ≡ length rs
left_out_count [] [] all = refl
left_out_count [] (s ∷ ss) all = absurd all
left_out_count (r ∷ rs) [] all = absurd all
left_out_count (r ∷ rs) (s ∷ ss) all = ap suc (left_out_count rs ss all.1)

pub left_out_told : (rs ss : List KeptResults) (n : ℕ) → AreLeftOut rs ss → told_by ss n ≡ told_by rs n
left_out_told [] [] n all = refl
left_out_told [] (s ∷ ss) n all = absurd all
left_out_told (r ∷ rs) [] n all = absurd all
left_out_told (r ∷ rs) (s ∷ ss) zero all = ap told_of_option all.0.1
left_out_told (r ∷ rs) (s ∷ ss) (suc n) all = left_out_told rs ss n all.1

-- what a block's results were
pub left_out_at : (rs ss : List KeptResults) (n : ℕ) (own : KeptResults) → AreLeftOut rs ss → slice_get ss n ≡ Some own → (was : KeptResults) × (slice_get rs n ≡ Some was) × LeavesOut was own
left_out_at [] [] n own all e = absurd cc
left_out_at [] (s ∷ ss) n own all e = absurd all
left_out_at (r ∷ rs) [] n own all e = absurd all
left_out_at (r ∷ rs) (s ∷ ss) zero own all e = let is : s ≡ own = cc in (r, refl, subst (LeavesOut r) is all.0)
left_out_at (r ∷ rs) (s ∷ ss) (suc n) own all e = left_out_at rs ss n own all.1 e

pub told_by_is : (results : List KeptResults) (block : ℕ) (r : KeptResults) → slice_get results block ≡ Some r → told_by results block ≡ told_last r
told_by_is results block r e = ap last_of_option e

-- ---- where all that is kept is right, the latest is, wherever the parameters have the values of its key

module _ (version : Version) (db : Database) (blocks : Blocks) (plans : List Plan) (k : ℕ) (outer : List Combination) where
  abbrev Right : Kept → Type 0
  Right = IsRight version db blocks plans k

  right_told : (existence : Bool) (latest : Option Kept) → IfSome latest Right → option_and_then (λ (x : Kept). x.key) latest ≡ Some (outer_values outer (parameters blocks k)) → IfSome latest (λ (x : Kept). x.existence ≡ existence)
      → Tells existence (meanings db 0 blocks k outer) (told_of_option latest)
  right_told existence None h e asked = absurd cc
  right_told existence (Some x) h e asked = subst (λ own. Tells own (meanings db 0 blocks k outer) x.told) asked (h outer e).0

  right_total : (latest : Option Kept) (total : ℕ) → IfSome latest Right → option_and_then (λ (x : Kept). x.key) latest ≡ Some (outer_values outer (parameters blocks k)) → option_map (λ (x : Kept). x.total) latest ≡ Some total → total ≡ totals version db 0 blocks plans k outer
  right_total None total h e t = absurd cc
  right_total (Some x) total h e t = let own : x.total ≡ total = cc in sym own ∙ (h outer e).1

  pub latest_is_told : (existence : Bool) (r : KeptResults) → AllKept Right r → latest_key r ≡ Some (outer_values outer (parameters blocks k)) → IfSome (latest_in r) (λ (x : Kept). x.existence ≡ existence)
      → Tells existence (meanings db 0 blocks k outer) (told_last r)
  latest_is_told existence r h e asked = right_told existence (latest_in r) (latest_is_kept Right r h) e asked

  pub latest_is_total : (r : KeptResults) (total : ℕ) → AllKept Right r → latest_key r ≡ Some (outer_values outer (parameters blocks k)) → latest_total r ≡ Some total → total ≡ totals version db 0 blocks plans k outer
  latest_is_total r total h e t = right_total (latest_in r) total (latest_is_kept Right r h) e t
