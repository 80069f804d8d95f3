-- Set functions of values in another order.
use Rattle.std.proofs.Common.{◌≡◌, ◌∙◌, refl, sym, ap, ap₂, subst, ℕ, List, [], ◌∷◌, Bool, true, false, cond, length, arith, true≢false}
use Rattle.std.proofs.lemmas.Int.{ints}
use Rattle.std.specs.Prelude.{ℤ, pos, ◌+ℤ◌, ◌*ℤ◌, ◌^◌, ◌-◌, max, IsPermutation}
use Rattle.std.specs.List.{AllByRecursion}
use Rattle.std.specs.Cmp.{int_ranked, IsStrictWeakOrder}
use Rattle.std.specs.Ordering.{is_lt, ordering_reverse}
use Rattle.std.proofs.lemmas.Cmp.{tied_itself}
use Rattle.std.proofs.lemmas.List.Sorted.{length_permutation, ranks_by, IsStrictWeakOrder-flip}
use Rattle.std.specs.declared.cmp.Ordering.{Ordering}
use Rattle.std.specs.declared.cmp.Ordering.TheVariants.{Less, Equal, Greater}
use Rattle.definitions.specs.Value.{Value, Null, Number, Text, rank}
use Rattle.definitions.specs.Arithmetic.{Meaning, Is, judged, over, at_scale}
use Rattle.definitions.specs.Statement.{Count, Sum, Avg, Min, Max}
use Rattle.definitions.specs.Queries.Evaluation.{and_then}
use Rattle.definitions.specs.Queries.Grouping.{among, exact_plus, exact_sum, sum_value, judged_value, counted}
use Rattle.definitions.proofs.Loading.{factor, texts_tied}
use Rattle.definitions.proofs.Ranking.{power_is_positive, rank_total}
use Rattle.definitions_answers.specs.GroupTotals.{total_of, units_of}
use Rattle.definitions_answers.specs.Shapes.{Shape, Numbers, Texts, HasShape, IsThere, EqualRankInAShapeIsEquality, AggregateTakesAnyOrder}
use Rattle.definitions_answers.proofs.Reordered.{Reordered, same, next, exchange, through, arranged, reordered}

-- ---- equal rank

same_number : (u w : ℤ) (s r : ℕ) → s ≡ r → rank (Number u s) (Number w r) ≡ Equal → Number u s ≡ Number w r
same_number u w s r e h = ap₂ Number (factor u w (10 ^ s) (power_is_positive s) (ap (λ k. u *ℤ pos (10 ^ k)) e ∙ int_ranked (u *ℤ pos (10 ^ r)) (w *ℤ pos (10 ^ s)) Equal (sym h))) e

same_text : (xs ys : List ℕ) → length xs ≡ length ys → rank (Text xs) (Text ys) ≡ Equal → Text xs ≡ Text ys
same_text xs ys e h = ap Text (texts_tied xs ys ys e h (tied_itself rank_total (Text ys)))

pub equal_rank_in_a_shape : EqualRankInAShapeIsEquality
equal_rank_in_a_shape shape Null Null h l e = refl
equal_rank_in_a_shape shape Null (Number u s) h l e = absurd cc
equal_rank_in_a_shape shape Null (Text t) h l e = absurd cc
equal_rank_in_a_shape shape (Number u s) Null h l e = absurd cc
equal_rank_in_a_shape shape (Number u s) (Text t) h l e = absurd cc
equal_rank_in_a_shape shape (Text t) Null h l e = absurd cc
equal_rank_in_a_shape shape (Text t) (Number u s) h l e = absurd cc
equal_rank_in_a_shape (Numbers scale) (Number u s) (Number w r) h l e = same_number u w s r (h ∙ sym l) e
equal_rank_in_a_shape (Texts n) (Number u s) (Number w r) h l e = absurd h
equal_rank_in_a_shape (Numbers scale) (Text xs) (Text ys) h l e = absurd h
equal_rank_in_a_shape (Texts n) (Text xs) (Text ys) h l e = same_text xs ys (h ∙ sym l) e

-- ---- one value made of many

module _ (f : Value → Value → Value) (P : Value → Type 0)
    (kept : (a b : Value) → P a → P b → P (f a b))
    (either : (a b : Value) → P a → P b → f a b ≡ f b a)
    (past : (a b c : Value) → P a → P b → P c → f a (f b c) ≡ f b (f a c)) where
  all_kept : (v : Value) (vs : List Value) → P v → AllByRecursion P vs → P (among f (v ∷ vs))
  all_kept v [] p ps = p
  all_kept v (w ∷ ws) p ps = kept v (among f (w ∷ ws)) p (all_kept w ws ps.0 ps.1)

  all_again : (xs ys : List Value) → Reordered xs ys → AllByRecursion P xs → AllByRecursion P ys
  all_again xs ys (same _ _ e) h = subst (AllByRecursion P) e h
  all_again _ _ (next x xs ys r) h = (h.0, all_again xs ys r h.1)
  all_again _ _ (exchange x y xs) h = (h.1.0, (h.0, h.1.1))
  all_again xs zs (through _ ys _ r s) h = all_again ys zs s (all_again xs ys r h)

  put_first : (x : Value) (xs ys : List Value) → Reordered xs ys → among f ys ≡ among f xs → among f (x ∷ ys) ≡ among f (x ∷ xs)
  put_first x [] [] r e = refl
  put_first x [] (y ∷ ys) r e = absurd (longer r)
    where
      longer : Reordered [] (y ∷ ys) → ⊥
      longer q = let l = length_permutation [] (y ∷ ys) (arranged [] (y ∷ ys) q) in omega (arith, l)
  put_first x (z ∷ zs) [] r e = absurd (shorter r)
    where
      shorter : Reordered (z ∷ zs) [] → ⊥
      shorter q = let l = length_permutation (z ∷ zs) [] (arranged (z ∷ zs) [] q) in omega (arith, l)
  put_first x (z ∷ zs) (y ∷ ys) r e = ap (f x) e

  past_all : (x y : Value) (xs : List Value) → P x → P y → AllByRecursion P xs → among f (y ∷ x ∷ xs) ≡ among f (x ∷ y ∷ xs)
  past_all x y [] p q h = either y x q p
  past_all x y (z ∷ zs) p q h = past y x (among f (z ∷ zs)) q p (all_kept z zs h.0 h.1)

  among_again : (xs ys : List Value) → Reordered xs ys → AllByRecursion P xs → among f ys ≡ among f xs
  among_again xs ys (same _ _ e) h = ap (among f) (sym e)
  among_again _ _ (next x xs ys r) h = put_first x xs ys r (among_again xs ys r h.1)
  among_again _ _ (exchange x y xs) h = past_all x y xs h.0 h.1.0 h.1.1
  among_again xs zs (through _ ys _ r s) h = among_again ys zs s (all_again xs ys r h) ∙ among_again xs ys r h

-- ---- least and greatest

module _ (before : Value → Value → Bool) (order : IsStrictWeakOrder before) (P : Value → Type 0) (one : (a b : Value) → P a → P b → before a b ≡ false → before b a ≡ false → a ≡ b) where
  abbrev first : Value → Value → Value
  first a b = cond (before b a) b a

  first_kept : (a b : Value) → P a → P b → P (first a b)
  first_kept a b p q = step (before b a)
    where
      step : (t : Bool) → P (cond t b a)
      step true = q
      step false = p

  first_either : (a b : Value) → P a → P b → first a b ≡ first b a
  first_either a b p q = step (before b a) (before a b) refl refl
    where
      step : (t u : Bool) → before b a ≡ t → before a b ≡ u → cond t b a ≡ cond u a b
      step true true g h = absurd (true≢false (sym h ∙ order.one_way b a g))
      step true false g h = refl
      step false true g h = refl
      step false false g h = one a b p q h g

  first_past : (a b c : Value) → P a → P b → P c → first a (first b c) ≡ first b (first a c)
  first_past a b c p q r = step (before c b) (before c a) refl refl
    where
      least_c : (x : Value) → before c x ≡ true → first x c ≡ c
      least_c x e = ap (λ t. cond t c x) e

      not_back : (x y : Value) → before y x ≡ false → first x y ≡ x
      not_back x y e = ap (λ t. cond t y x) e

      step : (t u : Bool) → before c b ≡ t → before c a ≡ u → first a (cond t c b) ≡ first b (cond u c a)
      step true true g h = least_c a h ∙ sym (least_c b g)
      step true false g h = not_back a c h ∙ sym (late (before a b) refl)
        where
          late : (t : Bool) → before a b ≡ t → first b a ≡ a
          late true e = ap (λ s. cond s a b) e
          late false e = absurd (true≢false (sym g ∙ order.chain c a b h e))
      step false true g h = late (before b a) refl ∙ sym (not_back b c g)
        where
          late : (t : Bool) → before b a ≡ t → first a b ≡ b
          late true e = ap (λ s. cond s b a) e
          late false e = absurd (true≢false (sym h ∙ order.chain c b a g e))
      step false false g h = first_either a b p q

  pub first_again : (xs ys : List Value) → Reordered xs ys → AllByRecursion P xs → among first ys ≡ among first xs
  first_again xs ys r h = among_again first P first_kept first_either first_past xs ys r h

not_less_either : (o : Ordering) → is_lt o ≡ false → is_lt (ordering_reverse o) ≡ false → o ≡ Equal
not_less_either Less e f = absurd (true≢false e)
not_less_either Equal e f = refl
not_less_either Greater e f = absurd (true≢false f)

there_has : (shape : Shape) (v : Value) → IsThere shape v → HasShape shape v
there_has shape Null h = absurd h
there_has shape (Number u s) h = h
there_has shape (Text t) h = h

one_of_equal : (shape : Shape) (a b : Value) → IsThere shape a → IsThere shape b → is_lt (rank a b) ≡ false → is_lt (rank b a) ≡ false → a ≡ b
one_of_equal shape a b p q e f =
    equal_rank_in_a_shape shape a b (there_has shape a p) (there_has shape b q)
    (not_less_either (rank a b) e (sym (ap is_lt (rank_total.antisymm b a)) ∙ f))

-- ---- sums

greatest_itself : (s : ℕ) → max s s ≡ s
greatest_itself s = omega arith

at_own_scale : (s : ℕ) (u : ℤ) → at_scale (max s s) u s ≡ u
at_own_scale s u = let e : max s s - s ≡ 0 = omega arith in ap (λ k. u *ℤ pos (10 ^ k)) e ∙ by_one u
  where
    by_one : (x : ℤ) → x *ℤ pos 1 ≡ x
    by_one x = grind arith

plus_same : (u w : ℤ) (s : ℕ) → exact_plus (Number u s) (Number w s) ≡ Number (u +ℤ w) s
plus_same u w s = ap₂ Number (ap₂ (λ a b. a +ℤ b) (at_own_scale s u) (at_own_scale s w)) (greatest_itself s)

plus_zero : (x : ℤ) → x ≡ x +ℤ pos 0
plus_zero x = grind arith

sum_is : (scale : ℕ) (u : ℤ) (vs : List Value) → AllByRecursion (IsThere (Numbers scale)) vs → exact_sum (Number u scale) vs ≡ Number (u +ℤ total_of vs) scale
sum_is scale u [] h = ap (λ x. Number x scale) (plus_zero u)
sum_is scale u (Null ∷ vs) h = absurd h.0
sum_is scale u (Text t ∷ vs) h = absurd h.0
sum_is scale u (Number w s ∷ vs) h =
    ap (λ r. exact_sum (exact_plus (Number u scale) (Number w r)) vs) h.0
    ∙ ap (λ v. exact_sum v vs) (plus_same u w scale)
    ∙ sum_is scale (u +ℤ w) vs h.1
    ∙ ap (λ x. Number x scale) (grouped u w (total_of vs))
  where
    grouped : (a b c : ℤ) → (a +ℤ b) +ℤ c ≡ a +ℤ (b +ℤ c)
    grouped a b c = omega (arith, ints)

abbrev pub sum_by_total : ℕ → List Value → Meaning Value
sum_by_total scale [] = Is Null
sum_by_total scale (v ∷ vs) = judged (total_of (v ∷ vs)) scale

pub sum_by_units : (scale : ℕ) (vs : List Value) → AllByRecursion (IsThere (Numbers scale)) vs → sum_value vs ≡ sum_by_total scale vs
sum_by_units scale [] h = refl
sum_by_units scale (Null ∷ vs) h = absurd h.0
sum_by_units scale (Text t ∷ vs) h = absurd h.0
sum_by_units scale (Number u s ∷ vs) h = ap (λ r. judged_value (exact_sum (Number u r) vs)) h.0 ∙ ap judged_value (sum_is scale u vs h.1)

total_again : (xs ys : List Value) → Reordered xs ys → total_of ys ≡ total_of xs
total_again xs ys (same _ _ e) = ap total_of (sym e)
total_again _ _ (next x xs ys r) = ap (λ t. units_of x +ℤ t) (total_again xs ys r)
total_again _ _ (exchange x y xs) = swapped (units_of x) (units_of y) (total_of xs)
  where
    swapped : (a b c : ℤ) → b +ℤ (a +ℤ c) ≡ a +ℤ (b +ℤ c)
    swapped a b c = omega (arith, ints)
total_again xs zs (through _ ys _ r s) = total_again ys zs s ∙ total_again xs ys r

all_there_again : (shape : Shape) (xs ys : List Value) → Reordered xs ys → AllByRecursion (IsThere shape) xs → AllByRecursion (IsThere shape) ys
all_there_again shape xs ys (same _ _ e) h = subst (AllByRecursion (IsThere shape)) e h
all_there_again shape _ _ (next x xs ys r) h = (h.0, all_there_again shape xs ys r h.1)
all_there_again shape _ _ (exchange x y xs) h = (h.1.0, (h.0, h.1.1))
all_there_again shape xs zs (through _ ys _ r s) h = all_there_again shape ys zs s (all_there_again shape xs ys r h)

by_total_again : (scale : ℕ) (xs ys : List Value) → length ys ≡ length xs → total_of ys ≡ total_of xs → sum_by_total scale ys ≡ sum_by_total scale xs
by_total_again scale [] [] l e = refl
by_total_again scale [] (y ∷ ys) l e = absurd (omega (arith, l))
by_total_again scale (x ∷ xs) [] l e = absurd (omega (arith, l))
by_total_again scale (x ∷ xs) (y ∷ ys) l e = ap (λ t. judged t scale) e

sum_again : (scale : ℕ) (vs ws : List Value) → AllByRecursion (IsThere (Numbers scale)) vs → IsPermutation vs ws → sum_value ws ≡ sum_value vs
sum_again scale vs ws h p =
    let r = reordered vs ws p in
    sum_by_units scale ws (all_there_again (Numbers scale) vs ws r h) ∙ by_total_again scale vs ws (length_permutation vs ws p) (total_again vs ws r) ∙ sym (sum_by_units scale vs h)

count_again : (vs ws : List Value) → IsPermutation vs ws → counted ws ≡ counted vs
count_again vs ws p = ap (λ n. Number (pos n) 0) (length_permutation vs ws p)

pub aggregate_takes_any_order : AggregateTakesAnyOrder
aggregate_takes_any_order Count shape vs ws sums h p = ap Is (count_again vs ws p)
aggregate_takes_any_order Sum (Numbers scale) vs ws sums h p = sum_again scale vs ws h p
aggregate_takes_any_order Sum (Texts n) vs ws sums h p = absurd sums
aggregate_takes_any_order Avg (Numbers scale) vs ws sums h p = ap₂ (λ n m. and_then (λ total. over total n) m) (count_again vs ws p) (sum_again scale vs ws h p)
aggregate_takes_any_order Avg (Texts n) vs ws sums h p = absurd sums
aggregate_takes_any_order Min shape vs ws sums h p =
    ap Is (first_again (λ b a. is_lt (rank b a)) (ranks_by rank_total (λ v. v)) (IsThere shape) (λ a b p q e f. one_of_equal shape a b p q e f) vs ws (reordered vs ws p) h)
aggregate_takes_any_order Max shape vs ws sums h p =
    ap Is (first_again (λ b a. is_lt (rank a b)) (IsStrictWeakOrder-flip (λ b a. is_lt (rank b a)) (ranks_by rank_total (λ v. v))) (IsThere shape) (λ a b p q e f. one_of_equal shape a b p q f e) vs ws (reordered vs ws p) h)
