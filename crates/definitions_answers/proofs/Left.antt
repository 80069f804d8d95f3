-- What is left where repeats are left out.
use Rattle.std.proofs.Common.{◌≡◌, ◌∙◌, inl, inr, refl, sym, ap, ap₂, subst, List, [], ◌∷◌, ◌++◌, Bool, true, false, cond, arith, true≢false}
use Rattle.std.specs.Prelude.{◌&&◌, ◌||◌, filter, not, IsPermutation}
use Rattle.std.specs.Cmp.{IsEquivalence, eq_by_cmp_equiv}
use Rattle.std.specs.List.{AllByRecursion, list_any}
use Rattle.std.specs.Ordering.{is_eq}
use Rattle.std.specs.declared.cmp.Ordering.{Ordering}
use Rattle.std.specs.declared.cmp.Ordering.TheVariants.{Less, Equal, Greater}
use Rattle.std.proofs.lemmas.List.Elements.{filter-append}
use Rattle.std.proofs.lemmas.List.Sorted.{IsPermutation-cons, IsPermutation-refl, IsPermutation-swap, IsPermutation-trans}
use Rattle.definitions.specs.Table.{Row}
use Rattle.definitions.specs.Value.{Value, rank, is_null}
use Rattle.definitions.specs.Lists.{without_repeats}
use Rattle.definitions.specs.Queries.Grouping.{same_value, same_values}
use Rattle.definitions.proofs.Ranking.{rank_total}
use Rattle.definitions_execution.specs.Lists.{In, Rises}
use Rattle.definitions_answers.specs.Shapes.{Shape, HasShape, HasShapes}
use Rattle.definitions_answers.specs.Repeats.{RepeatsInAnyOrder, TakenInAnyOrder, RepeatsOneByOne, RepeatsKeepOrder}
use Rattle.definitions_answers.proofs.Aggregates.{equal_rank_in_a_shape}
use Rattle.definitions_answers.proofs.Reordered.{Reordered, same, next, exchange, through, reordered, filter_arranged}

filter_past : {X : Type 0} (p q : X → Bool) (xs : List X) → filter p (filter q xs) ≡ filter q (filter p xs)
filter_past p q [] = refl
filter_past {X} p q (x ∷ xs) = step (p x) (q x) refl refl (filter_past p q xs)
  where
    step : (b c : Bool) → p x ≡ b → q x ≡ c → filter p (filter q xs) ≡ filter q (filter p xs) → filter p (cond c (x ∷ filter q xs) (filter q xs)) ≡ filter q (cond b (x ∷ filter p xs) (filter p xs))
    step true true e f r = ap (λ t. cond t (x ∷ filter p (filter q xs)) (filter p (filter q xs))) e ∙ ap (λ l. x ∷ l) r ∙ sym (ap (λ t. cond t (x ∷ filter q (filter p xs)) (filter q (filter p xs))) f)
    step true false e f r = r ∙ sym (ap (λ t. cond t (x ∷ filter q (filter p xs)) (filter q (filter p xs))) f)
    step false true e f r = ap (λ t. cond t (x ∷ filter p (filter q xs)) (filter p (filter q xs))) e ∙ r
    step false false e f r = r

module _ {X : Type 0} (alike : X → X → Bool) (laws : IsEquivalence alike) (P : X → Type 0) (one : (a b : X) → P a → P b → alike a b ≡ true → a ≡ b) where
  abbrev left : List X → List X
  left = without_repeats alike

  abbrev unlike : X → X → Bool
  unlike x y = not (alike x y)

  swapped : (x y : X) (xs : List X) → IsPermutation (x ∷ y ∷ xs) (y ∷ x ∷ xs)
  swapped x y xs = IsPermutation-swap (x ∷ y ∷ xs) (y ∷ x ∷ xs) 0 1 (omega arith) (omega arith) refl

  two : (x y : X) (xs : List X) → P x → P y → IsPermutation (left (x ∷ y ∷ xs)) (left (y ∷ x ∷ xs))
  two x y xs p q = step (alike x y) refl
    where
      w : List X
      w = left xs

      step : (b : Bool) → alike x y ≡ b → IsPermutation (left (x ∷ y ∷ xs)) (left (y ∷ x ∷ xs))
      step true e = subst (λ z. IsPermutation (left (x ∷ z ∷ xs)) (left (z ∷ x ∷ xs))) (one x y p q e) (IsPermutation-refl (left (x ∷ x ∷ xs)))
      step false e =
          let here : left (x ∷ y ∷ xs) ≡ x ∷ y ∷ filter (unlike x) (filter (unlike y) w) = ap (λ t. x ∷ cond (not t) (y ∷ filter (unlike x) (filter (unlike y) w)) (filter (unlike x) (filter (unlike y) w))) e in
          let there : left (y ∷ x ∷ xs) ≡ y ∷ x ∷ filter (unlike y) (filter (unlike x) w) = ap (λ t. y ∷ cond (not t) (x ∷ filter (unlike y) (filter (unlike x) w)) (filter (unlike y) (filter (unlike x) w))) (laws.symm y x ∙ e) in
          subst (λ l. IsPermutation l (left (y ∷ x ∷ xs))) (sym here)
          (subst (IsPermutation (x ∷ y ∷ filter (unlike x) (filter (unlike y) w))) (ap (λ l. y ∷ x ∷ l) (filter_past (unlike x) (unlike y) w) ∙ sym there) (swapped x y (filter (unlike x) (filter (unlike y) w))))

  all_again : (xs ys : List X) → Reordered xs ys → AllByRecursion P xs → AllByRecursion P ys
  all_again xs ys (same _ _ e) h = subst (AllByRecursion P) e h
  all_again _ _ (next x xs ys r) h = (h.0, all_again xs ys r h.1)
  all_again _ _ (exchange x y xs) h = (h.1.0, (h.0, h.1.1))
  all_again xs zs (through _ ys _ r s) h = all_again ys zs s (all_again xs ys r h)

  pub left_again : (xs ys : List X) → Reordered xs ys → AllByRecursion P xs → IsPermutation (left xs) (left ys)
  left_again xs ys (same _ _ e) h = subst (λ l. IsPermutation (left xs) (left l)) e (IsPermutation-refl (left xs))
  left_again _ _ (next x xs ys r) h = IsPermutation-cons x _ _ (filter_arranged (unlike x) (left xs) (left ys) (left_again xs ys r h.1))
  left_again _ _ (exchange x y xs) h = two x y xs h.0 h.1.0
  left_again xs zs (through _ ys _ r s) h = IsPermutation-trans _ _ _ (left_again xs ys r h) (left_again ys zs s (all_again xs ys r h))

-- ---- rows and values

pub value_laws : IsEquivalence same_value
value_laws = eq_by_cmp_equiv rank_total

equal_from : (o : Ordering) → is_eq o ≡ true → o ≡ Equal
equal_from Less e = absurd (true≢false (sym e))
equal_from Equal e = refl
equal_from Greater e = absurd (true≢false (sym e))

both_true : (a b : Bool) → (a && b) ≡ true → (a ≡ true) × (b ≡ true)
both_true true b e = (refl, e)
both_true false b e = absurd (true≢false (sym e))

pub one_value : (shape : Shape) (a b : Value) → HasShape shape a → HasShape shape b → same_value a b ≡ true → a ≡ b
one_value shape a b p q e = equal_rank_in_a_shape shape a b p q (equal_from (rank a b) e)

pub one_row : (shapes : List Shape) (a b : Row) → HasShapes shapes a → HasShapes shapes b → same_values a b ≡ true → a ≡ b
one_row [] [] [] p q e = refl
one_row [] [] (w ∷ ws) p q e = absurd q
one_row [] (v ∷ vs) b p q e = absurd p
one_row (s ∷ ss) [] b p q e = absurd p
one_row (s ∷ ss) (v ∷ vs) [] p q e = absurd q
one_row (s ∷ ss) (v ∷ vs) (w ∷ ws) p q e =
    let (first, rest) = both_true (same_value v w) (same_values vs ws) e in
    ap₂ (λ x xs. x ∷ xs) (one_value s v w p.0 q.0 first) (one_row ss vs ws p.1 q.1 rest)

rows_refl : (a : Row) → same_values a a ≡ true
rows_refl [] = refl
rows_refl (v ∷ vs) = ap₂ (λ x y. x && y) (value_laws.refl v) (rows_refl vs)

rows_symm : (a b : Row) → same_values a b ≡ same_values b a
rows_symm [] [] = refl
rows_symm [] (w ∷ ws) = refl
rows_symm (v ∷ vs) [] = refl
rows_symm (v ∷ vs) (w ∷ ws) = ap₂ (λ x y. x && y) (value_laws.symm v w) (rows_symm vs ws)

rows_congr : (a b c : Row) → same_values a b ≡ true → same_values a c ≡ same_values b c
rows_congr [] [] c e = refl
rows_congr [] (w ∷ ws) c e = absurd (true≢false (sym e))
rows_congr (v ∷ vs) [] c e = absurd (true≢false (sym e))
rows_congr (v ∷ vs) (w ∷ ws) [] e = refl
rows_congr (v ∷ vs) (w ∷ ws) (x ∷ xs) e =
    let (first, rest) = both_true (same_value v w) (same_values vs ws) e in
    ap₂ (λ y z. y && z) (value_laws.congr v w x first) (rows_congr vs ws xs rest)

pub row_laws : IsEquivalence same_values
row_laws = record { refl = rows_refl; symm = rows_symm; congr = rows_congr }

pub repeats_in_any_order : RepeatsInAnyOrder
repeats_in_any_order shapes rows others h p = left_again same_values row_laws (HasShapes shapes) (one_row shapes) rows others (reordered rows others p) h

all_filtered : {X : Type 0} (P : X → Type 0) (p : X → Bool) (xs : List X) → AllByRecursion P xs → AllByRecursion P (filter p xs)
all_filtered P p [] h = tt
all_filtered {X} P p (x ∷ xs) h = step (p x) (all_filtered P p xs h.1)
  where
    step : (b : Bool) → AllByRecursion P (filter p xs) → AllByRecursion P (cond b (x ∷ filter p xs) (filter p xs))
    step true r = (h.0, r)
    step false r = r

pub taken_in_any_order : TakenInAnyOrder
taken_in_any_order false shape vs ws h p = filter_arranged (λ v. not (is_null v)) vs ws p
taken_in_any_order true shape vs ws h p =
    let q = filter_arranged (λ v. not (is_null v)) vs ws p in
    left_again same_value value_laws (HasShape shape) (one_value shape) _ _ (reordered _ _ q) (all_filtered (HasShape shape) (λ v. not (is_null v)) vs h)

-- ---- one by one

module _ {X : Type 0} (alike : X → X → Bool) (laws : IsEquivalence alike) where
  abbrev more : List X → X → List X
  more xs y = cond (list_any (λ x. alike x y) xs) xs (xs ++ y ∷ [])

  any_kept : (x y : X) (xs : List X) → alike x y ≡ false → list_any (λ z. alike z y) (filter (λ z. not (alike x z)) xs) ≡ list_any (λ z. alike z y) xs
  any_kept x y [] e = refl
  any_kept x y (z ∷ zs) e = step (alike x z) refl (any_kept x y zs e)
    where
      step : (b : Bool) → alike x z ≡ b → list_any (λ u. alike u y) (filter (λ u. not (alike x u)) zs) ≡ list_any (λ u. alike u y) zs
          → list_any (λ u. alike u y) (cond (not b) (z ∷ filter (λ u. not (alike x u)) zs) (filter (λ u. not (alike x u)) zs)) ≡ (alike z y || list_any (λ u. alike u y) zs)
      step true f r = r ∙ sym (ap (λ t. t || list_any (λ u. alike u y) zs) (sym (laws.congr x z y f) ∙ e))
      step false f r = ap (λ t. alike z y || t) r

  filter_more : (x y : X) (xs : List X) → filter (λ z. not (alike x z)) (more xs y) ≡ cond (alike x y || list_any (λ z. alike z y) xs) (filter (λ z. not (alike x z)) xs) (filter (λ z. not (alike x z)) xs ++ y ∷ [])
  filter_more x y xs = step (list_any (λ z. alike z y) xs) (alike x y) refl
    where
      step : (b c : Bool) → alike x y ≡ c → filter (λ z. not (alike x z)) (cond b xs (xs ++ y ∷ [])) ≡ cond (c || b) (filter (λ z. not (alike x z)) xs) (filter (λ z. not (alike x z)) xs ++ y ∷ [])
      step true true e = refl
      step true false e = refl
      step false c e = filter-append (λ z. not (alike x z)) xs (y ∷ []) ∙ last c e
        where
          nil : (us : List X) → us ++ [] ≡ us
          nil [] = refl
          nil (u ∷ us) = ap (λ vs. u ∷ vs) (nil us)

          last : (d : Bool) → alike x y ≡ d → filter (λ z. not (alike x z)) xs ++ cond (not (alike x y)) (y ∷ []) [] ≡ cond (d || false) (filter (λ z. not (alike x z)) xs) (filter (λ z. not (alike x z)) xs ++ y ∷ [])
          last true f = ap (λ t. filter (λ z. not (alike x z)) xs ++ cond (not t) (y ∷ []) []) f ∙ nil (filter (λ z. not (alike x z)) xs)
          last false f = ap (λ t. filter (λ z. not (alike x z)) xs ++ cond (not t) (y ∷ []) []) f

  pub left_more : (xs : List X) (y : X) → without_repeats alike (xs ++ y ∷ []) ≡ more (without_repeats alike xs) y
  left_more [] y = refl
  left_more (x ∷ xs) y = ap (λ l. x ∷ filter (λ z. not (alike x z)) l) (left_more xs y) ∙ ap (λ l. x ∷ l) (filter_more x y (without_repeats alike xs)) ∙ step (alike x y) refl
    where
      w : List X
      w = without_repeats alike xs

      step : (c : Bool) → alike x y ≡ c
          → x ∷ cond (alike x y || list_any (λ z. alike z y) w) (filter (λ z. not (alike x z)) w) (filter (λ z. not (alike x z)) w ++ y ∷ []) ≡ more (x ∷ filter (λ z. not (alike x z)) w) y
      step true e =
          ap (λ t. x ∷ cond (t || list_any (λ z. alike z y) w) (filter (λ z. not (alike x z)) w) (filter (λ z. not (alike x z)) w ++ y ∷ [])) e
          ∙ sym (ap (λ t. cond (t || list_any (λ z. alike z y) (filter (λ z. not (alike x z)) w)) (x ∷ filter (λ z. not (alike x z)) w) (x ∷ filter (λ z. not (alike x z)) w ++ y ∷ [])) e)
      step false e =
          ap (λ t. x ∷ cond (t || list_any (λ z. alike z y) w) (filter (λ z. not (alike x z)) w) (filter (λ z. not (alike x z)) w ++ y ∷ [])) e
          ∙ by_any (list_any (λ z. alike z y) w)
          ∙ ap (λ t. cond t (x ∷ filter (λ z. not (alike x z)) w) (x ∷ filter (λ z. not (alike x z)) w ++ y ∷ [])) (sym (any_kept x y w e))
          ∙ sym (ap (λ t. cond (t || list_any (λ z. alike z y) (filter (λ z. not (alike x z)) w)) (x ∷ filter (λ z. not (alike x z)) w) (x ∷ filter (λ z. not (alike x z)) w ++ y ∷ [])) e)
        where
          by_any : (t : Bool) → x ∷ cond t (filter (λ z. not (alike x z)) w) (filter (λ z. not (alike x z)) w ++ y ∷ []) ≡ cond t (x ∷ filter (λ z. not (alike x z)) w) (x ∷ filter (λ z. not (alike x z)) w ++ y ∷ [])
          by_any true = refl
          by_any false = refl

pub repeats_one_by_one : RepeatsOneByOne
repeats_one_by_one rows row = left_more same_values row_laws rows row

-- ---- in order

module _ {X : Type 0} (R : X → X → Type 0) where
  was_in : (p : X → Bool) (xs : List X) (x : X) → In x (filter p xs) → In x xs
  was_in p [] x i = i
  was_in p (y ∷ ys) x i = step (p y) (was_in p ys x) i
    where
      step : (b : Bool) → (In x (filter p ys) → In x ys) → In x (cond b (y ∷ filter p ys) (filter p ys)) → In x (y ∷ ys)
      step true r (inl e) = inl e
      step true r (inr j) = inr (r j)
      step false r j = inr (r j)

  pub rises_filtered : (p : X → Bool) (xs : List X) → Rises R xs → Rises R (filter p xs)
  rises_filtered p [] h = tt
  rises_filtered p (x ∷ xs) h = step (p x) (rises_filtered p xs h.1)
    where
      step : (b : Bool) → Rises R (filter p xs) → Rises R (cond b (x ∷ filter p xs) (filter p xs))
      step true r = (λ y i. h.0 y (was_in p xs y i), r)
      step false r = r

  was_there : (alike : X → X → Bool) (xs : List X) (x : X) → In x (without_repeats alike xs) → In x xs
  was_there alike [] x i = i
  was_there alike (y ∷ ys) x (inl e) = inl e
  was_there alike (y ∷ ys) x (inr i) = inr (was_there alike ys x (was_in (λ z. not (alike y z)) (without_repeats alike ys) x i))

  rises_left : (alike : X → X → Bool) (xs : List X) → Rises R xs → Rises R (without_repeats alike xs)
  rises_left alike [] h = tt
  rises_left alike (x ∷ xs) h =
      (λ y i. h.0 y (was_there alike xs y (was_in (λ z. not (alike x z)) (without_repeats alike xs) y i)), rises_filtered (λ z. not (alike x z)) (without_repeats alike xs) (rises_left alike xs h.1))

pub repeats_keep_order : RepeatsKeepOrder
repeats_keep_order R rows h = rises_left (λ a b. R a b ≡ true) same_values rows h
