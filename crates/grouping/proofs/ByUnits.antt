-- Numbers of one scale, taken in by their units.
use Rattle.std.proofs.Common.{◌≡◌, ◌∙◌, refl, sym, ap, ap₂, subst, ℕ, suc, ◌+◌, ◌<◌, List, [], ◌∷◌, ◌++◌, Bool, true, false, cond, not, length, get_or, append_assoc, arith, ℤ, pos, ◌+ℤ◌}
use Rattle.std.specs.Prelude.{int_lt, ◌<ℤ◌}
use Rattle.std.specs.List.{AllByRecursion}
use Rattle.std.specs.Cmp.{int_ranks}
use Rattle.std.specs.Ordering.{int_cmp, is_lt, MatchOrdering}
use Rattle.std.specs.declared.cmp.Ordering.{Ordering}
use Rattle.std.specs.declared.cmp.Ordering.TheVariants.{Less, Equal, Greater}
use Rattle.std.proofs.lemmas.Bool.Decides.{nat_tests}
use Rattle.std.proofs.lemmas.Int.{ints}
use Rattle.std.proofs.lemmas.List.{length-append}
use Rattle.definitions.specs.Value.{Value, Null, Number, Text, rank}
use Rattle.definitions.specs.Statement as s
use Rattle.definitions.specs.Queries.Grouping.{among, lesser, greater}
use Rattle.definitions_answers.specs.Shapes.{Shape, Numbers, Texts, HasShape, IsThere}
use Rattle.definitions_answers.specs.GroupTotals.{total_of}
use Rattle.sqlvalue.proofs.NumberKeys.{of_one_scale}
use Rattle.parse_tree.specs.Trees.{function_of}
use Rattle.sqlvalue.specs.Owned.{owned_value}
use Rattle.grouping.specs.Accumulating.{replaces, Accumulates, HasChosen, HasScale, HasTotal}
use Rattle.grouping.specs.declared.accumulator.Accumulator.{Accumulator}
use Rattle.grouping.proofs.Taking as one
use Rattle.grouping.specs.Units.{chosen_after, greatest_from, least_from, numbers_at, sum_of, best_from, added_sum, scale_of_sum}

-- how tests of whole numbers go with their comparison
less_by : (a b : ℤ) (o : Ordering) → MatchOrdering o (a <ℤ b) (a ≡ b) (b <ℤ a) → is_lt o ≡ int_lt a b
less_by a b Less h = grind (arith, ints, nat_tests, h)
less_by a b Equal h = grind (arith, ints, nat_tests, h)
less_by a b Greater h = grind (arith, ints, nat_tests, h)

less_in_scale : (a b : ℤ) (scale : ℕ) → is_lt (rank (Number a scale) (Number b scale)) ≡ int_lt a b
less_in_scale a b scale = ap is_lt (sym (of_one_scale a b scale scale refl)) ∙ less_by a b (int_cmp a b) (int_ranks a b)

-- ---- least and greatest

same_both : (t : Bool) (x : ℤ) → cond t x x ≡ x
same_both true x = refl
same_both false x = refl

-- the less of a unit and another, and then of a third
least_of_three : (b u w : ℤ) → cond (int_lt w (cond (int_lt u b) u b)) w (cond (int_lt u b) u b) ≡ cond (int_lt (cond (int_lt w u) w u) b) (cond (int_lt w u) w u) b
least_of_three b u w = grind (arith, ints, nat_tests)

least_of_two : (b u : ℤ) → cond (int_lt u b) u b ≡ cond (not (int_lt b u)) u b
least_of_two b u = grind (arith, ints, nat_tests)

least_with : (b u : ℤ) (us : List ℤ) → least_from (cond (int_lt u b) u b) us ≡ cond (not (int_lt b (least_from u us))) (least_from u us) b
least_with b u [] = least_of_two b u
least_with b u (w ∷ us) = ap (λ x. least_from x us) (least_of_three b u w) ∙ least_with b (cond (int_lt w u) w u) us

greatest_of_three : (b u w : ℤ) → cond (int_lt (cond (int_lt b u) u b) w) w (cond (int_lt b u) u b) ≡ cond (int_lt b (cond (int_lt u w) w u)) (cond (int_lt u w) w u) b
greatest_of_three b u w = grind (arith, ints, nat_tests)

greatest_of_two : (b u : ℤ) → cond (int_lt b u) u b ≡ cond (not (int_lt u b)) u b
greatest_of_two b u = grind (arith, ints, nat_tests)

greatest_with : (b u : ℤ) (us : List ℤ) → greatest_from (cond (int_lt b u) u b) us ≡ cond (not (int_lt (greatest_from u us) b)) (greatest_from u us) b
greatest_with b u [] = greatest_of_two b u
greatest_with b u (w ∷ us) = ap (λ x. greatest_from x us) (greatest_of_three b u w) ∙ greatest_with b (cond (int_lt u w) w u) us

-- ---- what is chosen

chosen_least : (scale : ℕ) (b : ℤ) (us : List ℤ) → chosen_after s.Min (Number b scale) (numbers_at scale us) ≡ Number (least_from b us) scale
chosen_least scale b [] = refl
chosen_least scale b (u ∷ us) =
    ap (λ c. chosen_after s.Min c (numbers_at scale us)) (ap (λ t. cond (not t) (Number u scale) (Number b scale)) (less_in_scale b u scale) ∙ number_of_test (not (int_lt b u)) u b scale ∙ ap (λ x. Number x scale) (sym (least_of_two b u)))
    ∙ chosen_least scale (cond (int_lt u b) u b) us
  where
    number_of_test : (t : Bool) (x y : ℤ) (n : ℕ) → cond t (Number x n) (Number y n) ≡ Number (cond t x y) n
    number_of_test true x y n = refl
    number_of_test false x y n = refl

chosen_greatest : (scale : ℕ) (b : ℤ) (us : List ℤ) → chosen_after s.Max (Number b scale) (numbers_at scale us) ≡ Number (greatest_from b us) scale
chosen_greatest scale b [] = refl
chosen_greatest scale b (u ∷ us) =
    ap (λ c. chosen_after s.Max c (numbers_at scale us)) (ap (λ t. cond (not t) (Number u scale) (Number b scale)) (less_in_scale u b scale) ∙ number_of_test (not (int_lt u b)) u b scale ∙ ap (λ x. Number x scale) (sym (greatest_of_two b u)))
    ∙ chosen_greatest scale (cond (int_lt b u) u b) us
  where
    number_of_test : (t : Bool) (x y : ℤ) (n : ℕ) → cond t (Number x n) (Number y n) ≡ Number (cond t x y) n
    number_of_test true x y n = refl
    number_of_test false x y n = refl

none_chosen : (f : s.SetFunction) (c : Value) (vs : List Value) → ((w v : Value) → replaces f w v ≡ false) → chosen_after f c vs ≡ c
none_chosen f c [] none = refl
none_chosen f c (v ∷ vs) none = ap (λ t. chosen_after f (cond t v c) vs) (none c v) ∙ none_chosen f c vs none

-- the best of some units comes in place of what is chosen, or doesn't
abbrev pub best_instead : s.SetFunction → Value → ℤ → List ℤ → ℕ → Value
best_instead f c first us scale = cond (replaces f c (Number (best_from f first us) scale)) (Number (best_from f first us) scale) c

instead_of : (f : s.SetFunction) (scale : ℕ) (c : Value) (u : ℤ) (us : List ℤ) → HasShape (Numbers scale) c → best_instead f c u (u ∷ us) scale ≡ chosen_after f c (numbers_at scale (u ∷ us))
instead_of s.Min scale Null u us h = ap (λ x. Number (least_from x us) scale) (same_both (int_lt u u) u) ∙ sym (chosen_least scale u us)
instead_of s.Min scale (Number b r) u us h =
    subst (λ n. best_instead s.Min (Number b n) u (u ∷ us) scale ≡ chosen_after s.Min (Number b n) (numbers_at scale (u ∷ us))) (sym h)
    (ap (λ x. cond (not (is_lt (rank (Number b scale) (Number (least_from x us) scale)))) (Number (least_from x us) scale) (Number b scale)) (same_both (int_lt u u) u)
    ∙ ap (λ t. cond (not t) (Number (least_from u us) scale) (Number b scale)) (less_in_scale b (least_from u us) scale)
    ∙ number_of_test (not (int_lt b (least_from u us))) (least_from u us) b
    ∙ ap (λ x. Number x scale) (sym (least_with b u us))
    ∙ sym (chosen_least scale b (u ∷ us)))
  where
    number_of_test : (t : Bool) (x y : ℤ) → cond t (Number x scale) (Number y scale) ≡ Number (cond t x y) scale
    number_of_test true x y = refl
    number_of_test false x y = refl
instead_of s.Min scale (Text t) u us h = absurd h
instead_of s.Max scale Null u us h = ap (λ x. Number (greatest_from x us) scale) (same_both (int_lt u u) u) ∙ sym (chosen_greatest scale u us)
instead_of s.Max scale (Number b r) u us h =
    subst (λ n. best_instead s.Max (Number b n) u (u ∷ us) scale ≡ chosen_after s.Max (Number b n) (numbers_at scale (u ∷ us))) (sym h)
    (ap (λ x. cond (not (is_lt (rank (Number (greatest_from x us) scale) (Number b scale)))) (Number (greatest_from x us) scale) (Number b scale)) (same_both (int_lt u u) u)
    ∙ ap (λ t. cond (not t) (Number (greatest_from u us) scale) (Number b scale)) (less_in_scale (greatest_from u us) b scale)
    ∙ number_of_test (not (int_lt (greatest_from u us) b)) (greatest_from u us) b
    ∙ ap (λ x. Number x scale) (sym (greatest_with b u us))
    ∙ sym (chosen_greatest scale b (u ∷ us)))
  where
    number_of_test : (t : Bool) (x y : ℤ) → cond t (Number x scale) (Number y scale) ≡ Number (cond t x y) scale
    number_of_test true x y = refl
    number_of_test false x y = refl
instead_of s.Max scale (Text t) u us h = absurd h
instead_of s.Count scale c u us h = sym (none_chosen s.Count c (numbers_at scale (u ∷ us)) (λ w v. refl))
instead_of s.Sum scale c u us h = sym (none_chosen s.Sum c (numbers_at scale (u ∷ us)) (λ w v. refl))
instead_of s.Avg scale c u us h = sym (none_chosen s.Avg c (numbers_at scale (u ∷ us)) (λ w v. refl))

-- what is chosen of all values
module _ (shape : Shape) where
  all_there : (vs ws : List Value) → AllByRecursion (IsThere shape) vs → AllByRecursion (IsThere shape) ws → AllByRecursion (IsThere shape) (vs ++ ws)
  all_there [] ws h l = l
  all_there (v ∷ vs) ws h l = (h.0, all_there vs ws h.1 l)

  least_after : (vs ws : List Value) → AllByRecursion (IsThere shape) vs → AllByRecursion (IsThere shape) ws → chosen_after s.Min (among lesser vs) ws ≡ among lesser (vs ++ ws)
  least_after vs [] h l = ap (among lesser) (nothing_behind vs)
    where
      nothing_behind : (xs : List Value) → xs ≡ xs ++ []
      nothing_behind [] = refl
      nothing_behind (x ∷ xs) = ap (λ ys. x ∷ ys) (nothing_behind xs)
  least_after vs (w ∷ ws) h l =
      ap (λ c. chosen_after s.Min c ws) (one.chosen_least shape vs w h l.0)
      ∙ least_after (vs ++ w ∷ []) ws (all_there vs (w ∷ []) h (l.0, tt)) l.1
      ∙ ap (among lesser) (append_assoc vs (w ∷ []) ws)

  greatest_after : (vs ws : List Value) → AllByRecursion (IsThere shape) vs → AllByRecursion (IsThere shape) ws → chosen_after s.Max (among greater vs) ws ≡ among greater (vs ++ ws)
  greatest_after vs [] h l = ap (among greater) (nothing_behind vs)
    where
      nothing_behind : (xs : List Value) → xs ≡ xs ++ []
      nothing_behind [] = refl
      nothing_behind (x ∷ xs) = ap (λ ys. x ∷ ys) (nothing_behind xs)
  greatest_after vs (w ∷ ws) h l =
      ap (λ c. chosen_after s.Max c ws) (one.chosen_greatest shape vs w h l.0)
      ∙ greatest_after (vs ++ w ∷ []) ws (all_there vs (w ∷ []) h (l.0, tt)) l.1
      ∙ ap (among greater) (append_assoc vs (w ∷ []) ws)

  -- it has the shape of all
  one_of_both : (t : Bool) (v w : Value) → HasShape shape v → HasShape shape w → HasShape shape (cond t v w)
  one_of_both true v w h l = h
  one_of_both false v w h l = l

  there_shaped : (v : Value) → IsThere shape v → HasShape shape v
  there_shaped Null h = absurd h
  there_shaped (Number u n) h = h
  there_shaped (Text t) h = h

  least_shaped : (vs : List Value) → AllByRecursion (IsThere shape) vs → HasShape shape (among lesser vs)
  least_shaped [] h = tt
  least_shaped (v ∷ []) h = there_shaped v h.0
  least_shaped (v ∷ w ∷ ws) h = one_of_both (is_lt (rank (among lesser (w ∷ ws)) v)) (among lesser (w ∷ ws)) v (least_shaped (w ∷ ws) h.1) (there_shaped v h.0)

  greatest_shaped : (vs : List Value) → AllByRecursion (IsThere shape) vs → HasShape shape (among greater vs)
  greatest_shaped [] h = tt
  greatest_shaped (v ∷ []) h = there_shaped v h.0
  greatest_shaped (v ∷ w ∷ ws) h = one_of_both (is_lt (rank v (among greater (w ∷ ws)))) (among greater (w ∷ ws)) v (greatest_shaped (w ∷ ws) h.1) (there_shaped v h.0)

-- ---- totals

total_joined : (vs ws : List Value) → total_of (vs ++ ws) ≡ total_of vs +ℤ total_of ws
total_joined [] ws = omega (arith, ints)
total_joined (v ∷ vs) ws = let rest = total_joined vs ws in omega (arith, ints, rest)

total_by_units : (scale : ℕ) (us : List ℤ) → total_of (numbers_at scale us) ≡ sum_of us
total_by_units scale [] = refl
total_by_units scale (u ∷ us) = ap (λ t. u +ℤ t) (total_by_units scale us)

-- ---- taken in

module _ (scale : ℕ) (vs : List Value) (u : ℤ) (us : List ℤ) (old new : Accumulator) (all : AllByRecursion (IsThere (Numbers scale)) vs) (here : AllByRecursion (IsThere (Numbers scale)) (numbers_at scale (u ∷ us))) where
  total_after : (f : s.SetFunction) → new.sum.total ≡ old.sum.total +ℤ added_sum f (u ∷ us) → HasTotal f (Numbers scale) vs old → HasTotal f (Numbers scale) (vs ++ numbers_at scale (u ∷ us)) new
  total_after s.Sum e h = e ∙ ap₂ (λ t w. t +ℤ w) h (sym (total_by_units scale (u ∷ us))) ∙ sym (total_joined vs (numbers_at scale (u ∷ us)))
  total_after s.Avg e h = e ∙ ap₂ (λ t w. t +ℤ w) h (sym (total_by_units scale (u ∷ us))) ∙ sym (total_joined vs (numbers_at scale (u ∷ us)))
  total_after s.Count e h = tt
  total_after s.Min e h = tt
  total_after s.Max e h = tt

  scale_after : (f : s.SetFunction) (xs : List Value) → new.sum.scale ≡ scale_of_sum f old.sum.scale scale → HasScale f (Numbers scale) (xs ++ numbers_at scale (u ∷ us)) new
  scale_after s.Sum [] e = e
  scale_after s.Sum (x ∷ xs) e = e
  scale_after s.Avg [] e = e
  scale_after s.Avg (x ∷ xs) e = e
  scale_after s.Count xs e = tt
  scale_after s.Min xs e = tt
  scale_after s.Max xs e = tt

  best_after : (f : s.SetFunction) → owned_value new.chosen ≡ best_instead f (owned_value old.chosen) u (u ∷ us) scale → HasChosen f vs old → HasChosen f (vs ++ numbers_at scale (u ∷ us)) new
  best_after s.Min e h =
      e ∙ ap (λ c. best_instead s.Min c u (u ∷ us) scale) h ∙ instead_of s.Min scale (among lesser vs) u us (least_shaped (Numbers scale) vs all) ∙ least_after (Numbers scale) vs (numbers_at scale (u ∷ us)) all here
  best_after s.Max e h =
      e ∙ ap (λ c. best_instead s.Max c u (u ∷ us) scale) h ∙ instead_of s.Max scale (among greater vs) u us (greatest_shaped (Numbers scale) vs all) ∙ greatest_after (Numbers scale) vs (numbers_at scale (u ∷ us)) all here
  best_after s.Count e h = tt
  best_after s.Sum e h = tt
  best_after s.Avg e h = tt

  length_at : (xs : List ℤ) → length (numbers_at scale xs) ≡ length xs
  length_at [] = refl
  length_at (x ∷ xs) = ap suc (length_at xs)

  those_more : new.function ≡ old.function → new.sum.count ≡ old.sum.count + length (u ∷ us) → new.sum.total ≡ old.sum.total +ℤ added_sum (function_of old.function) (u ∷ us)
      → new.sum.scale ≡ scale_of_sum (function_of old.function) old.sum.scale scale → owned_value new.chosen ≡ best_instead (function_of old.function) (owned_value old.chosen) u (u ∷ us) scale
      → Accumulates (Numbers scale) vs old → Accumulates (Numbers scale) (vs ++ numbers_at scale (u ∷ us)) new
  those_more same count total own chosen h = record {
    count = count ∙ ap₂ (λ m n. m + n) h.count (sym (length_at (u ∷ us))) ∙ sym (length-append vs (numbers_at scale (u ∷ us)));
    total = subst (λ f. HasTotal (function_of f) (Numbers scale) (vs ++ numbers_at scale (u ∷ us)) new) (sym same) (total_after (function_of old.function) total h.total);
    scale = subst (λ f. HasScale (function_of f) (Numbers scale) (vs ++ numbers_at scale (u ∷ us)) new) (sym same) (scale_after (function_of old.function) vs own);
    chosen = subst (λ f. HasChosen (function_of f) (vs ++ numbers_at scale (u ∷ us)) new) (sym same) (best_after (function_of old.function) chosen h.chosen);
  }

-- as code has it
pub units_taken : (shape : Shape) (vs : List Value) (scale : ℕ) (u : ℤ) (us : List ℤ) (old new : Accumulator) → AllByRecursion (IsThere shape) vs → AllByRecursion (IsThere shape) (numbers_at scale us) → 0 < length us → u ≡ get_or us 0 (pos 0)
    → new.function ≡ old.function → new.sum.count ≡ old.sum.count + length us → new.sum.total ≡ old.sum.total +ℤ added_sum (function_of old.function) us
    → new.sum.scale ≡ scale_of_sum (function_of old.function) old.sum.scale scale → owned_value new.chosen ≡ best_instead (function_of old.function) (owned_value old.chosen) u us scale
    → Accumulates shape vs old → Accumulates shape (vs ++ numbers_at scale us) new
units_taken shape vs scale u [] old new all here some first same count total own chosen h = absurd (omega (arith, some))
units_taken (Texts n) vs scale u (w ∷ us) old new all here some first same count total own chosen h = absurd here.0
units_taken (Numbers n) vs scale u (w ∷ us) old new all here some first same count total own chosen h =
    let at_scale : (m : ℕ) → scale ≡ m → AllByRecursion (IsThere (Numbers m)) vs → AllByRecursion (IsThere (Numbers m)) (numbers_at scale (w ∷ us)) → Accumulates (Numbers m) vs old → Accumulates (Numbers m) (vs ++ numbers_at scale (w ∷ us)) new =
    λ m e. subst (λ k. AllByRecursion (IsThere (Numbers k)) vs → AllByRecursion (IsThere (Numbers k)) (numbers_at scale (w ∷ us)) → Accumulates (Numbers k) vs old → Accumulates (Numbers k) (vs ++ numbers_at scale (w ∷ us)) new) e
    (λ a b. those_more scale vs w us old new a b same count total own (subst (λ x. owned_value new.chosen ≡ best_instead (function_of old.function) (owned_value old.chosen) x (w ∷ us) scale) first chosen)) in
    at_scale n here.0 all here h

pub none_taken : (shape : Shape) (vs : List Value) (scale : ℕ) (us : List ℤ) (a : Accumulator) → length us ≡ 0 → Accumulates shape vs a → Accumulates shape (vs ++ numbers_at scale us) a
none_taken shape vs scale [] a e h = subst (λ xs. Accumulates shape xs a) (nothing_behind vs) h
  where
    nothing_behind : (xs : List Value) → xs ≡ xs ++ []
    nothing_behind [] = refl
    nothing_behind (x ∷ xs) = ap (λ ys. x ∷ ys) (nothing_behind xs)
none_taken shape vs scale (u ∷ us) a e h = absurd (omega (arith, e))
