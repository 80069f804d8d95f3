-- How many keys differ does not depend on their order.
use Rattle.std.proofs.Common.{◌≡◌, ◌∙◌, refl, sym, ap, ap₂, ℕ, zero, suc, ◌<◌, ◌≤◌, List, [], ◌∷◌, Bool, true, false, cond, length, arith}
use Rattle.std.specs.Prelude.{not, ◌&&◌, ◌||◌, filter, IsPermutation, ⊤}
use Rattle.std.specs.Cmp.{IsTotalOrder, on_total, then_total}
use Rattle.std.specs.List.{AllByRecursion, list_any}
use Rattle.std.specs.Ordering.{ordering_then, ordering_reverse, is_eq}
use Rattle.std.specs.declared.cmp.Ordering.{Ordering}
use Rattle.std.specs.declared.cmp.Ordering.TheVariants.{Less, Equal, Greater}
use Rattle.std.proofs.lemmas.List.Elements.{All-from_recursion, recursion_from_All}
use Rattle.std.proofs.lemmas.List.Sorted.{All-permutation, list_any-IsPermutation}
use Rattle.definitions.specs.Value.{Value, Null, rank}
use Rattle.definitions.specs.Key.{Key, key_rank, has_null, full_keys, distinct_keys}
use Rattle.definitions.proofs.Ranking.{rank_total}

-- ---- any elements, of which some are the same

-- each once
abbrev once : {K : Type 0} → (K → K → Bool) → List K → List K
once same [] = []
once same (x ∷ xs) = x ∷ filter (λ y. not (same x y)) (once same xs)

-- what holds of all holds of each that is kept
kept_by : {K : Type 0} (P : K → Type 0) (b : Bool) (x : K) (xs : List K) → P x → AllByRecursion P xs → AllByRecursion P (cond b (x ∷ xs) xs)
kept_by P true x xs p h = (p, h)
kept_by P false x xs p h = h

kept : {K : Type 0} (P : K → Type 0) (p : K → Bool) (xs : List K) → AllByRecursion P xs → AllByRecursion P (filter p xs)
kept P p [] h = tt
kept P p (x ∷ xs) h = kept_by P (p x) x (filter p xs) h.0 (kept P p xs h.1)

once_kept : {K : Type 0} (P : K → Type 0) (same : K → K → Bool) (xs : List K) → AllByRecursion P xs → AllByRecursion P (once same xs)
once_kept P same [] h = tt
once_kept P same (x ∷ xs) h = (h.0, kept P (λ y. not (same x y)) (once same xs) (once_kept P same xs h.1))

module _ {K : Type 0} (same : K → K → Bool) (itself : (x : K) → same x x ≡ true) (flips : (x y : K) → same x y ≡ same y x) (carries : (x y z : K) → same x y ≡ true → same x z ≡ same y z) where
  abbrev AreApart : List K → Type 0
  AreApart [] = ⊤
  AreApart (x ∷ xs) = AllByRecursion (λ y. same x y ≡ false) xs × AreApart xs

  -- of elements that are the same as one of a list, those that differ from x are the same as one that differs from x
  left_by : (x y z : K) (zs : List K) (b c : Bool) → same y z ≡ b → same x z ≡ c → same x y ≡ false → (list_any (same y) zs ≡ true → list_any (same y) (filter (λ w. not (same x w)) zs) ≡ true)
      → (b || list_any (same y) zs) ≡ true → list_any (same y) (cond (not c) (z ∷ filter (λ w. not (same x w)) zs) (filter (λ w. not (same x w)) zs)) ≡ true
  left_by x y z zs true true e f n more h = absurd (let k : true ≡ false = sym f ∙ flips x z ∙ sym (carries y z x e) ∙ flips y x ∙ n in cc)
  left_by x y z zs true false e f n more h = rw e refl
  left_by x y z zs false true e f n more h = more h
  left_by x y z zs false false e f n more h = rw e (more h)

  left : (x y : K) (zs : List K) → same x y ≡ false → list_any (same y) zs ≡ true → list_any (same y) (filter (λ w. not (same x w)) zs) ≡ true
  left x y [] n h = h
  left x y (z ∷ zs) n h = left_by x y z zs (same y z) (same x z) refl refl n (left x y zs n) h

  fewer_by : (b : Bool) (z : K) (us zs : List K) → length us ≤ length zs → length (cond (not b) (z ∷ us) us) ≤ suc (length zs)
  fewer_by true z us zs h = omega (arith, h)
  fewer_by false z us zs h = omega (arith, h)

  fewer : (x : K) (zs : List K) → length (filter (λ w. not (same x w)) zs) ≤ length zs
  fewer x [] = omega arith
  fewer x (z ∷ zs) = fewer_by (same x z) z _ zs (fewer x zs)

  less_by : (b : Bool) (x z : K) (us zs : List K) → length us ≤ length zs → (list_any (same x) zs ≡ true → length us < length zs) → (b || list_any (same x) zs) ≡ true → length (cond (not b) (z ∷ us) us) < suc (length zs)
  less_by true x z us zs h l e = omega (arith, h)
  less_by false x z us zs h l e = omega (arith, l e)

  less : (x : K) (zs : List K) → list_any (same x) zs ≡ true → length (filter (λ w. not (same x w)) zs) < length zs
  less x [] h = absurd (let k : false ≡ true = h in cc)
  less x (z ∷ zs) h = less_by (same x z) x z _ zs (fewer x zs) (less x zs) h

  all_left : (x : K) (ys zs : List K) → AllByRecursion (λ y. same x y ≡ false) ys → AllByRecursion (λ y. list_any (same y) zs ≡ true) ys → AllByRecursion (λ y. list_any (same y) (filter (λ w. not (same x w)) zs) ≡ true) ys
  all_left x [] zs n h = tt
  all_left x (y ∷ ys) zs n h = (left x y zs n.0 h.0, all_left x ys zs n.1 h.1)

  -- as many fit among others as these are
  fit : (xs zs : List K) → AreApart xs → AllByRecursion (λ x. list_any (same x) zs ≡ true) xs → length xs ≤ length zs
  fit [] zs a h = omega arith
  fit (x ∷ xs) zs a h = omega (arith, fit xs (filter (λ w. not (same x w)) zs) a.1 (all_left x xs zs a.0 h.1), less x zs h.0)

  apart_by : (b : Bool) (x : K) (p : K → Bool) (xs : List K) → AllByRecursion (λ y. same x y ≡ false) xs → AreApart (filter p xs) → AreApart (cond b (x ∷ filter p xs) (filter p xs))
  apart_by true x p xs h a = (kept (λ y. same x y ≡ false) p xs h, a)
  apart_by false x p xs h a = a

  apart_kept : (p : K → Bool) (xs : List K) → AreApart xs → AreApart (filter p xs)
  apart_kept p [] a = tt
  apart_kept p (x ∷ xs) a = apart_by (p x) x p xs a.0 (apart_kept p xs a.1)

  differ_by : (b : Bool) (x y : K) (ys : List K) → same x y ≡ b → AllByRecursion (λ z. same x z ≡ false) ys → AllByRecursion (λ z. same x z ≡ false) (cond (not b) (y ∷ ys) ys)
  differ_by true x y ys e h = h
  differ_by false x y ys e h = (e, h)

  differ : (x : K) (ys : List K) → AllByRecursion (λ z. same x z ≡ false) (filter (λ w. not (same x w)) ys)
  differ x [] = tt
  differ x (y ∷ ys) = differ_by (same x y) x y _ refl (differ x ys)

  once_apart : (xs : List K) → AreApart (once same xs)
  once_apart [] = tt
  once_apart (x ∷ xs) = (differ x (once same xs), apart_kept (λ y. not (same x y)) (once same xs) (once_apart xs))

  -- what is the same as one of a list is the same as one that is kept once
  still_by : (b c : Bool) (y x : K) (xs : List K) → same y x ≡ b → same x y ≡ c → (list_any (same y) xs ≡ true → list_any (same y) (once same xs) ≡ true) → (b || list_any (same y) xs) ≡ true → (b || list_any (same y) (filter (λ w. not (same x w)) (once same xs))) ≡ true
  still_by true c y x xs e f more h = refl
  still_by false true y x xs e f more h = absurd (let k : true ≡ false = sym f ∙ flips x y ∙ e in cc)
  still_by false false y x xs e f more h = left x y (once same xs) f (more h)

  still : (y : K) (xs : List K) → list_any (same y) xs ≡ true → list_any (same y) (once same xs) ≡ true
  still y [] h = h
  still y (x ∷ xs) h = still_by (same y x) (same x y) y x xs refl refl (still y xs) h

  later_by : (b : Bool) (c : Bool) → c ≡ true → (b || c) ≡ true
  later_by true c h = refl
  later_by false c h = h

  all_later : (x : K) (ys zs : List K) → AllByRecursion (λ y. list_any (same y) zs ≡ true) ys → AllByRecursion (λ y. list_any (same y) (x ∷ zs) ≡ true) ys
  all_later x [] zs h = tt
  all_later x (y ∷ ys) zs h = (later_by (same y x) _ h.0, all_later x ys zs h.1)

  each_there : (xs : List K) → AllByRecursion (λ x. list_any (same x) xs ≡ true) xs
  each_there [] = tt
  each_there (x ∷ xs) = (rw (itself x) refl, all_later x xs xs (each_there xs))

  each_still : (ws xs ys : List K) → ((y : K) → list_any (same y) xs ≡ list_any (same y) ys) → AllByRecursion (λ x. list_any (same x) xs ≡ true) ws → AllByRecursion (λ x. list_any (same x) (once same ys) ≡ true) ws
  each_still [] xs ys alike h = tt
  each_still (w ∷ ws) xs ys alike h = (still w ys (sym (alike w) ∙ h.0), each_still ws xs ys alike h.1)

  no_more : (xs ys : List K) → ((y : K) → list_any (same y) xs ≡ list_any (same y) ys) → length (once same xs) ≤ length (once same ys)
  no_more xs ys alike = fit (once same xs) (once same ys) (once_apart xs) (once_kept (λ x. list_any (same x) (once same ys) ≡ true) same xs (each_still xs xs ys alike (each_there xs)))

  as_many : (xs ys : List K) → ((y : K) → list_any (same y) xs ≡ list_any (same y) ys) → length (once same xs) ≡ length (once same ys)
  as_many xs ys alike = omega (arith, no_more xs ys alike, no_more ys xs (λ y. sym (alike y)))

  -- of a filter and of a permutation
  any_by : (b : Bool) (q : K → Bool) (x : K) (xs : List K) (rest : Bool) → list_any q xs ≡ rest → list_any q (cond b (x ∷ xs) xs) ≡ ((b && q x) || rest)
  any_by true q x xs rest e = ap (λ r. q x || r) e
  any_by false q x xs rest e = e

  any_kept : (p q : K → Bool) (xs : List K) → list_any q (filter p xs) ≡ list_any (λ x. p x && q x) xs
  any_kept p q [] = refl
  any_kept p q (x ∷ xs) = any_by (p x) q x (filter p xs) _ (any_kept p q xs)

  pub as_many_kept : (p : K → Bool) (xs ys : List K) → IsPermutation xs ys → length (once same (filter p xs)) ≡ length (once same (filter p ys))
  as_many_kept p xs ys permuted = as_many (filter p xs) (filter p ys) (λ y. any_kept p (same y) xs ∙ list_any-IsPermutation (λ x. p x && same y x) xs ys permuted ∙ sym (any_kept p (same y) ys))

-- ---- keys of one length

abbrev first_of : Key → Value
first_of [] = Null
first_of (v ∷ key) = v

abbrev rest_of : Key → Key
rest_of [] = []
rest_of (v ∷ key) = key

-- the rank by so many values, of which a short key's wanting ones are null
abbrev pub rank_to : ℕ → Key → Key → Ordering
rank_to zero a b = Equal
rank_to (suc n) a b = ordering_then (rank (first_of a) (first_of b)) (rank_to n (rest_of a) (rest_of b))

pub to_total : (n : ℕ) → IsTotalOrder (rank_to n)
to_total zero = record { antisymm = λ x y. refl; trans = λ x y z h l. h; congr = λ x y z h. refl }
to_total (suc n) = then_total (on_total first_of rank_total) (on_total rest_of (to_total n))

abbrev pub AreOfLength : ℕ → List Key → Type 0
AreOfLength n = AllByRecursion (λ key. length key ≡ n)

pub ranks_to : (n : ℕ) (a b : Key) → length a ≡ n → length b ≡ n → key_rank a b ≡ rank_to n a b
ranks_to zero [] [] h l = refl
ranks_to zero [] (b ∷ bs) h l = absurd (omega (arith, l))
ranks_to zero (a ∷ as') bs h l = absurd (omega (arith, h))
ranks_to (suc n) [] bs h l = absurd (omega (arith, h))
ranks_to (suc n) (a ∷ as') [] h l = absurd (omega (arith, l))
ranks_to (suc n) (a ∷ as') (b ∷ bs) h l = ap (ordering_then (rank a b)) (ranks_to n as' bs (omega (arith, h)) (omega (arith, l)))

equal_alone : (o : Ordering) → o ≡ ordering_reverse o → is_eq o ≡ true
equal_alone Less e = absurd cc
equal_alone Equal e = refl
equal_alone Greater e = absurd cc

equal_turned : (o : Ordering) → is_eq (ordering_reverse o) ≡ is_eq o
equal_turned Less = refl
equal_turned Equal = refl
equal_turned Greater = refl

is_equal : (o : Ordering) → is_eq o ≡ true → o ≡ Equal
is_equal Less h = absurd cc
is_equal Equal h = refl
is_equal Greater h = absurd cc

abbrev same_to : ℕ → Key → Key → Bool
same_to n a b = is_eq (rank_to n a b)

same_itself : (n : ℕ) (a : Key) → same_to n a a ≡ true
same_itself n a = equal_alone (rank_to n a a) ((to_total n).antisymm a a)

same_flips : (n : ℕ) (a b : Key) → same_to n a b ≡ same_to n b a
same_flips n a b = ap is_eq ((to_total n).antisymm a b) ∙ equal_turned (rank_to n b a)

same_carries : (n : ℕ) (a b c : Key) → same_to n a b ≡ true → same_to n a c ≡ same_to n b c
same_carries n a b c h = ap is_eq ((to_total n).congr a b c (is_equal (rank_to n a b) h))

-- keys of one length count as those by that rank
alike : {K : Type 0} (p q : K → Bool) (xs : List K) → AllByRecursion (λ x. p x ≡ q x) xs → filter p xs ≡ filter q xs
alike p q [] h = refl
alike p q (x ∷ xs) h = ap₂ (λ b ys. cond b (x ∷ ys) ys) h.0 (alike p q xs h.1)

each_alike : (n : ℕ) (key : Key) (keys : List Key) → length key ≡ n → AreOfLength n keys → AllByRecursion (λ other. not (is_eq (key_rank key other)) ≡ not (same_to n key other)) keys
each_alike n key [] h l = tt
each_alike n key (other ∷ keys) h l = (ap (λ o. not (is_eq o)) (ranks_to n key other h l.0), each_alike n key keys h l.1)

once_keys : (n : ℕ) (keys : List Key) → AreOfLength n keys → distinct_keys keys ≡ once (same_to n) keys
once_keys n [] l = refl
once_keys n (key ∷ keys) l =
    let differs = λ (other : Key). not (is_eq (key_rank key other)) in
    ap (λ ks. key ∷ ks)
    (ap (filter differs) (once_keys n keys l.1) ∙ alike differs (λ other. not (same_to n key other)) (once (same_to n) keys) (each_alike n key (once (same_to n) keys) l.0 (once_kept (λ k. length k ≡ n) (same_to n) keys l.1)))

pub as_many_keys : (n : ℕ) (xs ys : List Key) → AreOfLength n xs → IsPermutation xs ys → length (distinct_keys (full_keys xs)) ≡ length (distinct_keys (full_keys ys))
as_many_keys n xs ys long permuted =
    let P = λ (key : Key). length key ≡ n in
    let full = λ (key : Key). not (has_null key) in
    let long' : AreOfLength n ys = recursion_from_All P ys (All-permutation P xs ys permuted (All-from_recursion P xs long)) in
    ap length (once_keys n (full_keys xs) (kept P full xs long)) ∙ as_many_kept (same_to n) (same_itself n) (same_flips n) (same_carries n) full xs ys permuted ∙ sym (ap length (once_keys n (full_keys ys) (kept P full ys long')))
