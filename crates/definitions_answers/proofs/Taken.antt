-- Small facts on lists.
use Rattle.std.proofs.Common.{◌≡◌, ◌⊎◌, inl, inr, ◌++◌, refl, sym, subst, List, [], ◌∷◌, Bool, true, false, cond, arith, true≢false}
use Rattle.std.specs.Prelude.{filter, not, Contains, IsPermutation}
use Rattle.std.proofs.lemmas.List.Elements.{Contains-append_cases}
use Rattle.std.specs.List.{AllByRecursion}
use Rattle.std.proofs.lemmas.List.Sorted.{length_permutation}
use Rattle.definitions.specs.Value.{Value, Null, Number, Text, is_null}
use Rattle.definitions.specs.Lists.{without_repeats}
use Rattle.definitions.specs.Queries.Grouping.{same_value, taken}
use Rattle.definitions_answers.specs.Shapes.{Shape, HasShape, IsThere}
use Rattle.definitions_answers.proofs.Reordered.{Reordered, same, next, exchange, through, reordered}

pub not_longer : {X : Type 0} (x : X) (xs : List X) → IsPermutation [] (x ∷ xs) → ⊥
not_longer x xs p = let l = length_permutation [] (x ∷ xs) p in omega (arith, l)

pub not_shorter : {X : Type 0} (x : X) (xs : List X) → IsPermutation (x ∷ xs) [] → ⊥
not_shorter x xs p = let l = length_permutation (x ∷ xs) [] p in omega (arith, l)

pub all_arranged : {X : Type 0} (P : X → Type 0) (xs ys : List X) → Reordered xs ys → AllByRecursion P xs → AllByRecursion P ys
all_arranged P xs ys (same _ _ e) h = subst (AllByRecursion P) e h
all_arranged P _ _ (next x xs ys r) h = (h.0, all_arranged P xs ys r h.1)
all_arranged P _ _ (exchange x y xs) h = (h.1.0, (h.0, h.1.1))
all_arranged P xs zs (through _ ys _ r s) h = all_arranged P ys zs s (all_arranged P xs ys r h)

pub first_among : {X : Type 0} (P : X → Type 0) (xs : List X) (y : X) (ys : List X) → IsPermutation xs (y ∷ ys) → AllByRecursion P xs → P y
first_among P xs y ys p h = (all_arranged P xs (y ∷ ys) (reordered xs (y ∷ ys) p) h).0

pub both_of : {X : Type 0} (P Q : X → Type 0) (xs : List X) → AllByRecursion P xs → AllByRecursion Q xs → AllByRecursion (λ x. P x × Q x) xs
both_of P Q [] h l = tt
both_of P Q (x ∷ xs) h l = ((h.0, l.0), both_of P Q xs h.1 l.1)

there : (shape : Shape) (v : Value) → HasShape shape v → not (is_null v) ≡ true → IsThere shape v
there shape Null h e = absurd (true≢false (sym e))
there shape (Number u s) h e = h
there shape (Text t) h e = h

-- what is not null is there
those_there : (shape : Shape) (vs : List Value) → AllByRecursion (HasShape shape) vs → AllByRecursion (IsThere shape) (filter (λ v. not (is_null v)) vs)
those_there shape [] h = tt
those_there shape (v ∷ vs) h = step (not (is_null v)) refl (those_there shape vs h.1)
  where
    step : (b : Bool) → not (is_null v) ≡ b → AllByRecursion (IsThere shape) (filter (λ w. not (is_null w)) vs) → AllByRecursion (IsThere shape) (cond b (v ∷ filter (λ w. not (is_null w)) vs) (filter (λ w. not (is_null w)) vs))
    step true e r = (there shape v h.0 e, r)
    step false e r = r

pub all_filtered : {X : Type 0} (P : X → Type 0) (p : X → Bool) (xs : List X) → AllByRecursion P xs → AllByRecursion P (filter p xs)
all_filtered P p [] h = tt
all_filtered {X} P p (x ∷ xs) h = step (p x) (all_filtered P p xs h.1)
  where
    step : (b : Bool) → AllByRecursion P (filter p xs) → AllByRecursion P (cond b (x ∷ filter p xs) (filter p xs))
    step true r = (h.0, r)
    step false r = r

pub all_left : {X : Type 0} (alike : X → X → Bool) (P : X → Type 0) (xs : List X) → AllByRecursion P xs → AllByRecursion P (without_repeats alike xs)
all_left alike P [] h = tt
all_left alike P (x ∷ xs) h = (h.0, all_filtered P (λ y. not (alike x y)) (without_repeats alike xs) (all_left alike P xs h.1))

pub taken_there : (distinct : Bool) (shape : Shape) (vs : List Value) → AllByRecursion (HasShape shape) vs → AllByRecursion (IsThere shape) (taken distinct vs)
taken_there false shape vs h = those_there shape vs h
taken_there true shape vs h = all_left same_value (IsThere shape) (filter (λ v. not (is_null v)) vs) (those_there shape vs h)

pub contains_either : {X : Type 0} {G : Type 0} (xs ys : List X) (x : X) → Contains (xs ++ ys) x → (Contains xs x → G) → (Contains ys x → G) → G
contains_either {X} {G} xs ys x h f g = either (Contains-append_cases xs ys x h)
  where
    either : Contains xs x ⊎ Contains ys x → G
    either (inl k) = f k
    either (inr k) = g k

pub all_split : {X : Type 0} (P : X → Type 0) (xs ys : List X) → AllByRecursion P (xs ++ ys) → AllByRecursion P xs × AllByRecursion P ys
all_split P [] ys h = (tt, h)
all_split P (x ∷ xs) ys h = let (a, b) = all_split P xs ys h.1 in ((h.0, a), b)

pub all_joined : {X : Type 0} (P : X → Type 0) (xs ys : List X) → AllByRecursion P xs → AllByRecursion P ys → AllByRecursion P (xs ++ ys)
all_joined P [] ys h l = l
all_joined P (x ∷ xs) ys h l = (h.0, all_joined P xs ys h.1 l)
