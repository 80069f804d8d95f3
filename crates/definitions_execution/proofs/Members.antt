-- Members of lists, and relations between each element and each later one, through filters, maps and joined lists.
use Rattle.definitions_execution.specs.Lists.{In, Rises}
use Rattle.std.proofs.Common.{sym, ap, ◌∙◌, subst, ◌≡◌, ◌⊎◌, inl, inr, List, [], ◌∷◌, ◌++◌, map, filter, flat_map, Bool, true, false, ◌&&◌, cond, refl, true≢false}
use Rattle.std.specs.List.{list_all}

-- ---- members

module _ {X : Type 0} where
  pub in_left : (x : X) (xs ys : List X) → In x xs → In x (xs ++ ys)
  in_left x [] ys h = absurd h
  in_left x (a ∷ xs) ys (inl e) = inl e
  in_left x (a ∷ xs) ys (inr h) = inr (in_left x xs ys h)

  pub in_right : (x : X) (xs ys : List X) → In x ys → In x (xs ++ ys)
  in_right x [] ys h = h
  in_right x (a ∷ xs) ys h = inr (in_right x xs ys h)

  pub in_either : (x : X) (xs ys : List X) → In x (xs ++ ys) → In x xs ⊎ In x ys
  in_either x [] ys h = inr h
  in_either x (a ∷ xs) ys (inl e) = inl (inl e)
  in_either x (a ∷ xs) ys (inr h) = later (in_either x xs ys h)
    where
      later : In x xs ⊎ In x ys → In x (a ∷ xs) ⊎ In x ys
      later (inl h) = inl (inr h)
      later (inr h) = inr h

  pub in_filter : (p : X → Bool) (x : X) (xs : List X) → In x xs → p x ≡ true → In x (filter p xs)
  in_filter p x [] i h = absurd i
  in_filter p x (a ∷ xs) (inl e) h = rw (e, h) (inl refl)
  in_filter p x (a ∷ xs) (inr i) h = by_test (p a) (in_filter p x xs i h)
    where
      by_test : (b : Bool) → In x (filter p xs) → In x (cond b (a ∷ filter p xs) (filter p xs))
      by_test true i = inr i
      by_test false i = i

  pub from_filter : (p : X → Bool) (x : X) (xs : List X) → In x (filter p xs) → In x xs × (p x ≡ true)
  from_filter p x [] h = absurd h
  from_filter p x (a ∷ xs) h = by_test (p a) refl (λ i. from_filter p x xs i) h
    where
      by_test : (b : Bool) → p a ≡ b → (In x (filter p xs) → In x xs × (p x ≡ true)) → In x (cond b (a ∷ filter p xs) (filter p xs)) → In x (a ∷ xs) × (p x ≡ true)
      by_test true e rest (inl is) = (inl is, ap p (sym is) ∙ e)
      by_test true e rest (inr i) = (inr (rest i).0, (rest i).1)
      by_test false e rest i = (inr (rest i).0, (rest i).1)

module _ {X Y : Type 0} where
  pub in_map : (f : X → Y) (x : X) (xs : List X) → In x xs → In (f x) (map f xs)
  in_map f x [] h = absurd h
  in_map f x (a ∷ xs) (inl e) = inl (ap f e)
  in_map f x (a ∷ xs) (inr i) = inr (in_map f x xs i)

  pub from_map : (f : X → Y) (y : Y) (xs : List X) → In y (map f xs) → (x : X) × In x xs × (f x ≡ y)
  from_map f y [] h = absurd h
  from_map f y (a ∷ xs) (inl e) = (a, inl refl, e)
  from_map f y (a ∷ xs) (inr i) = let r = from_map f y xs i in (r.0, inr r.1, r.2)

  pub in_flat : (f : X → List Y) (x : X) (y : Y) (xs : List X) → In x xs → In y (f x) → In y (flat_map f xs)
  in_flat f x y [] h i = absurd h
  in_flat f x y (a ∷ xs) (inl e) h = in_left y (f a) (flat_map f xs) (rw e h)
  in_flat f x y (a ∷ xs) (inr i) h = in_right y (f a) (flat_map f xs) (in_flat f x y xs i h)

  pub from_flat : (f : X → List Y) (y : Y) (xs : List X) → In y (flat_map f xs) → (x : X) × In x xs × In y (f x)
  from_flat f y [] h = absurd h
  from_flat f y (a ∷ xs) h = by_part (in_either y (f a) (flat_map f xs) h) (λ i. from_flat f y xs i)
    where
      by_part : In y (f a) ⊎ In y (flat_map f xs) → (In y (flat_map f xs) → (x : X) × In x xs × In y (f x)) → (x : X) × In x (a ∷ xs) × In y (f x)
      by_part (inl h) rest = (a, inl refl, h)
      by_part (inr h) rest = let r = rest h in (r.0, inr r.1, r.2)

-- ---- pairs

module _ {X : Type 0} where
  pub rises_weaker : (R Q : X → X → Type 0) (xs : List X) → ((x y : X) → In x xs → In y xs → R x y → Q x y) → Rises R xs → Rises Q xs
  rises_weaker R Q [] f h = tt
  rises_weaker R Q (x ∷ xs) f h = ((λ y i. f x y (inl refl) (inr i) (h.0 y i)), rises_weaker R Q xs (λ a b i j. f a b (inr i) (inr j)) h.1)

  pub rises_filter : (R : X → X → Type 0) (p : X → Bool) (xs : List X) → Rises R xs → Rises R (filter p xs)
  rises_filter R p [] h = tt
  rises_filter R p (x ∷ xs) h = by_test (p x) (rises_filter R p xs h.1)
    where
      by_test : (b : Bool) → Rises R (filter p xs) → Rises R (cond b (x ∷ filter p xs) (filter p xs))
      by_test true r = ((λ y i. h.0 y (from_filter p y xs i).0), r)
      by_test false r = r

  pub rises_append : (R : X → X → Type 0) (xs ys : List X) → Rises R xs → Rises R ys → ((x y : X) → In x xs → In y ys → R x y) → Rises R (xs ++ ys)
  rises_append R [] ys h k f = k
  rises_append R (x ∷ xs) ys h k f = ((λ y i. of_part y (in_either y xs ys i)), rises_append R xs ys h.1 k (λ a b i j. f a b (inr i) j))
    where
      of_part : (y : X) → In y xs ⊎ In y ys → R x y
      of_part y (inl i) = h.0 y i
      of_part y (inr i) = f x y (inl refl) i

module _ {X Y : Type 0} where
  pub rises_map : (R : X → X → Type 0) (Q : Y → Y → Type 0) (f : X → Y) (xs : List X) → ((x y : X) → In x xs → In y xs → R x y → Q (f x) (f y)) → Rises R xs → Rises Q (map f xs)
  rises_map R Q f [] g h = tt
  rises_map R Q f (x ∷ xs) g h = ((λ y i. of_origin y (from_map f y xs i)), rises_map R Q f xs (λ a b i j. g a b (inr i) (inr j)) h.1)
    where
      of_origin : (y : Y) → (z : X) × In z xs × (f z ≡ y) → Q (f x) y
      of_origin y (z, i, e) = subst (λ w. Q (f x) w) e (g x z (inl refl) (inr i) (h.0 z i))

  pub rises_flat : (R : X → X → Type 0) (Q : Y → Y → Type 0) (f : X → List Y) (xs : List X) → ((x : X) → In x xs → Rises Q (f x)) → ((x y : X) → In x xs → In y xs → R x y → (a b : Y) → In a (f x) → In b (f y) → Q a b) → Rises R xs → Rises Q (flat_map f xs)
  rises_flat R Q f [] inside across h = tt
  rises_flat R Q f (x ∷ xs) inside across h = rises_append Q (f x) (flat_map f xs) (inside x (inl refl)) (rises_flat R Q f xs (λ z i. inside z (inr i)) (λ a b i j. across a b (inr i) (inr j)) h.1) (λ a b i j. of_origin a b i (from_flat f b xs j))
    where
      of_origin : (a b : Y) → In a (f x) → (z : X) × In z xs × In b (f z) → Q a b
      of_origin a b i (z, k, j) = across x z (inl refl) (inr k) (h.0 z k) a b i j

-- ---- tests that all elements pass

pub all_by : {X : Type 0} → (test : X → Bool) (xs : List X) → ((x : X) → In x xs → test x ≡ true) → list_all test xs ≡ true
all_by test [] f = refl
all_by test (x ∷ xs) f = by_first (test x) (f x (inl refl)) (all_by test xs (λ y i. f y (inr i)))
  where
    by_first : (b : Bool) → b ≡ true → list_all test xs ≡ true → (b && list_all test xs) ≡ true
    by_first true e r = r
    by_first false e r = absurd (true≢false (sym e))

pub each_of : {X : Type 0} → (test : X → Bool) (xs : List X) → list_all test xs ≡ true → (x : X) → In x xs → test x ≡ true
each_of test [] h x i = absurd i
each_of {X} test (y ∷ ys) h x i = by_first (test y) refl h i (λ r j. each_of test ys r x j)
  where
    by_first : (b : Bool) → test y ≡ b → (b && list_all test ys) ≡ true → In x (y ∷ ys) → (list_all test ys ≡ true → In x ys → test x ≡ true) → test x ≡ true
    by_first true e r (inl f) rest = ap test (sym f) ∙ e
    by_first true e r (inr j) rest = rest r j
    by_first false e r j rest = absurd (true≢false (sym r))
