-- Classes of the same elements are the same, up to their order and that of their elements.
use Rattle.std.proofs.Common.{◌≡◌, ◌∙◌, refl, sym, ap, ap₂, subst, List, [], ◌∷◌, ◌++◌, Bool, true, false, cond, true≢false, arith}
use Rattle.std.specs.Prelude.{filter, not, ◌||◌, IsPermutation}
use Rattle.std.specs.List.{AllByRecursion, list_any}
use Rattle.std.specs.Cmp.{IsEquivalence}
use Rattle.std.proofs.lemmas.Bool.{or_parts}
use Rattle.std.proofs.lemmas.List.Elements.{filter-append}
use Rattle.std.proofs.lemmas.List.Sorted.{list_any-IsPermutation, IsPermutation-cons, IsPermutation-refl, IsPermutation-sym, IsPermutation-swap, IsPermutation-trans}
use Rattle.definitions.specs.Queries.Laws.{AreClasses}
use Rattle.definitions_answers.specs.Groups.{joined, AreSameGroups, NoneIsEmpty}
use Rattle.definitions_answers.proofs.Reordered.{filter_arranged, nothing_arranged}

module _ {X : Type 0} (p : X → Bool) where
  all_pass : (xs : List X) → AllByRecursion (λ x. p x ≡ true) xs → filter p xs ≡ xs
  all_pass [] h = refl
  all_pass (x ∷ xs) h = ap (λ b. cond b (x ∷ filter p xs) (filter p xs)) h.0 ∙ ap (λ ys. x ∷ ys) (all_pass xs h.1)

  none_passes : (xs : List X) → AllByRecursion (λ x. p x ≡ false) xs → filter p xs ≡ []
  none_passes [] h = refl
  none_passes (x ∷ xs) h = ap (λ b. cond b (x ∷ filter p xs) (filter p xs)) h.0 ∙ none_passes xs h.1

module _ {X : Type 0} (same : X → X → Bool) (laws : IsEquivalence same) where
  abbrev AsAll : X → List X → Type 0
  AsAll x xs = AllByRecursion (λ y. same x y ≡ true) xs

  abbrev AsNone : X → List X → Type 0
  AsNone x xs = AllByRecursion (λ y. same x y ≡ false) xs

  all_of : {A : Type 0} (P Q : A → Type 0) → ((x : A) → P x → Q x) → (xs : List A) → AllByRecursion P xs → AllByRecursion Q xs
  all_of P Q f [] h = tt
  all_of P Q f (x ∷ xs) h = (f x h.0, all_of P Q f xs h.1)

  abbrev other : X → X → Bool
  other x y = not (same x y)

  -- what is the same as an element of a class is so as all of it
  found_in : (x : X) (class ys : List X) → AllByRecursion (λ y. AsAll y class) ys → list_any (same x) ys ≡ true → AsAll x class
  found_in x class [] h e = absurd (true≢false (sym e))
  found_in x class (y ∷ ys) h e = step (same x y) refl (λ k. found_in x class ys h.1 k) e
    where
      step : (b : Bool) → same x y ≡ b → (list_any (same x) ys ≡ true → AsAll x class) → (b || list_any (same x) ys) ≡ true → AsAll x class
      step true l r k = all_of (λ z. same y z ≡ true) (λ z. same x z ≡ true) (λ z m. laws.congr x y z l ∙ m) class h.0
      step false l r k = r k

  found : (x : X) (class : List X) → AllByRecursion (λ y. AsAll y class) class → list_any (same x) class ≡ true → AsAll x class
  found x class h e = found_in x class class h e

  -- and as none of the others
  found_apart : (x : X) (class : List X) (classes : List (List X)) → AllByRecursion (λ y. AllByRecursion (AsNone y) classes) class → list_any (same x) class ≡ true → AllByRecursion (AsNone x) classes
  found_apart x [] classes h e = absurd (true≢false (sym e))
  found_apart x (y ∷ ys) classes h e = step (same x y) refl (λ k. found_apart x ys classes h.1 k) e
    where
      step : (b : Bool) → same x y ≡ b → (list_any (same x) ys ≡ true → AllByRecursion (AsNone x) classes) → (b || list_any (same x) ys) ≡ true → AllByRecursion (AsNone x) classes
      step true l r k = all_of (AsNone y) (AsNone x) (λ zs m. all_of (λ z. same y z ≡ false) (λ z. same x z ≡ false) (λ z n. laws.congr x y z l ∙ n) zs m) classes h.0
      step false l r k = r k

  not_found : (x : X) (class : List X) → list_any (same x) class ≡ false → AsNone x class
  not_found x [] e = tt
  not_found x (y ∷ ys) e = let p = or_parts (same x y) (list_any (same x) ys) e in (p.0, not_found x ys p.1)

  none_joined : (x : X) (classes : List (List X)) → AllByRecursion (AsNone x) classes → AsNone x (joined classes)
  none_joined x [] h = tt
  none_joined x (c ∷ cs) h = both c (joined cs) h.0 (none_joined x cs h.1)
    where
      both : (ys zs : List X) → AsNone x ys → AsNone x zs → AsNone x (ys ++ zs)
      both [] zs a b = b
      both (y ∷ ys) zs a b = (a.0, both ys zs a.1 b)

  others_of_all : (x : X) (xs : List X) → AsAll x xs → filter (other x) xs ≡ []
  others_of_all x xs h = none_passes (other x) xs (all_of (λ y. same x y ≡ true) (λ y. other x y ≡ false) (λ y e. ap not e) xs h)

  others_of_none : (x : X) (xs : List X) → AsNone x xs → filter (other x) xs ≡ xs
  others_of_none x xs h = all_pass (other x) xs (all_of (λ y. same x y ≡ false) (λ y. other x y ≡ true) (λ y e. ap not e) xs h)

  -- ---- the class of an element, and the rest

  abbrev class_with : X → List (List X) → List X
  class_with x [] = []
  class_with x (c ∷ cs) = cond (list_any (same x) c) c (class_with x cs)

  abbrev rest : X → List (List X) → List (List X)
  rest x [] = []
  rest x (c ∷ cs) = cond (list_any (same x) c) cs (c ∷ rest x cs)

  any_append : (q : X → Bool) (xs ys : List X) → list_any q (xs ++ ys) ≡ (list_any q xs || list_any q ys)
  any_append q [] ys = refl
  any_append q (x ∷ xs) ys = step (q x) (any_append q xs ys)
    where
      step : (b : Bool) → list_any q (xs ++ ys) ≡ (list_any q xs || list_any q ys) → (b || list_any q (xs ++ ys)) ≡ ((b || list_any q xs) || list_any q ys)
      step true e = refl
      step false e = e

  moved : (a b : List X) (cs : List (List X)) → IsPermutation (a ∷ b ∷ cs) (b ∷ a ∷ cs)
  moved a b cs = IsPermutation-swap (a ∷ b ∷ cs) (b ∷ a ∷ cs) 0 1 (omega arith) (omega arith) refl

  class_first : (x : X) (cs : List (List X)) → list_any (same x) (joined cs) ≡ true → IsPermutation cs (class_with x cs ∷ rest x cs)
  class_first x [] h = absurd (true≢false (sym h))
  class_first x (c ∷ cs) h = step (list_any (same x) c) (λ e. class_first x cs e) (sym (any_append (same x) c (joined cs)) ∙ h)
    where
      step : (b : Bool) → (list_any (same x) (joined cs) ≡ true → IsPermutation cs (class_with x cs ∷ rest x cs)) → (b || list_any (same x) (joined cs)) ≡ true → IsPermutation (c ∷ cs) (cond b c (class_with x cs) ∷ cond b cs (c ∷ rest x cs))
      step true r e = IsPermutation-refl (c ∷ cs)
      step false r e = IsPermutation-trans (c ∷ cs) (c ∷ class_with x cs ∷ rest x cs) (class_with x cs ∷ c ∷ rest x cs) (IsPermutation-cons c cs (class_with x cs ∷ rest x cs) (r e)) (moved c (class_with x cs) (rest x cs))

  those_same : (x : X) (cs : List (List X)) → AreClasses same cs → filter (same x) (joined cs) ≡ class_with x cs
  those_same x [] h = refl
  those_same x (c ∷ cs) h = filter-append (same x) c (joined cs) ∙ step (list_any (same x) c) refl (those_same x cs h.2)
    where
      step : (b : Bool) → list_any (same x) c ≡ b → filter (same x) (joined cs) ≡ class_with x cs → filter (same x) c ++ filter (same x) (joined cs) ≡ cond b c (class_with x cs)
      step true e r =
          ap₂ (λ a b. a ++ b) (all_pass (same x) c (found x c h.0 e)) (none_passes (same x) (joined cs) (none_joined x cs (found_apart x c cs h.1 e))) ∙ nil c
        where
          nil : (xs : List X) → xs ++ [] ≡ xs
          nil [] = refl
          nil (y ∷ ys) = ap (λ zs. y ∷ zs) (nil ys)
      step false e r = ap₂ (λ a b. a ++ b) (none_passes (same x) c (not_found x c e)) r

  those_other : (x : X) (cs : List (List X)) → AreClasses same cs → filter (other x) (joined cs) ≡ joined (rest x cs)
  those_other x [] h = refl
  those_other x (c ∷ cs) h = filter-append (other x) c (joined cs) ∙ step (list_any (same x) c) refl (those_other x cs h.2)
    where
      step : (b : Bool) → list_any (same x) c ≡ b → filter (other x) (joined cs) ≡ joined (rest x cs) → filter (other x) c ++ filter (other x) (joined cs) ≡ joined (cond b cs (c ∷ rest x cs))
      step true e r = ap₂ (λ a b. a ++ b) (others_of_all x c (found x c h.0 e)) (others_of_none x (joined cs) (none_joined x cs (found_apart x c cs h.1 e)))
      step false e r = ap₂ (λ a b. a ++ b) (others_of_none x c (not_found x c e)) r

  none_in_rest : (P : List X → Type 0) (x : X) (cs : List (List X)) → AllByRecursion P cs → AllByRecursion P (rest x cs)
  none_in_rest P x [] h = tt
  none_in_rest P x (c ∷ cs) h = step (list_any (same x) c) (none_in_rest P x cs h.1)
    where
      step : (b : Bool) → AllByRecursion P (rest x cs) → AllByRecursion P (cond b cs (c ∷ rest x cs))
      step true r = h.1
      step false r = (h.0, r)

  rest_classes : (x : X) (cs : List (List X)) → AreClasses same cs → AreClasses same (rest x cs)
  rest_classes x [] h = tt
  rest_classes x (c ∷ cs) h = step (list_any (same x) c) (rest_classes x cs h.2)
    where
      step : (b : Bool) → AreClasses same (rest x cs) → AreClasses same (cond b cs (c ∷ rest x cs))
      step true r = h.2
      step false r = (h.0, all_of (λ y. AllByRecursion (AsNone y) cs) (λ y. AllByRecursion (AsNone y) (rest x cs)) (λ y k. none_in_rest (AsNone y) x cs k) c h.1, r)

  rest_some : (x : X) (cs : List (List X)) → NoneIsEmpty cs → NoneIsEmpty (rest x cs)
  rest_some x [] h = tt
  rest_some x ([] ∷ cs) h = absurd h
  rest_some x ((y ∷ ys) ∷ cs) h = step (list_any (same x) (y ∷ ys)) (rest_some x cs h)
    where
      step : (b : Bool) → NoneIsEmpty (rest x cs) → NoneIsEmpty (cond b cs ((y ∷ ys) ∷ rest x cs))
      step true r = h
      step false r = r

  -- ---- two lists of classes

  nothing_left : (hs : List (List X)) → NoneIsEmpty hs → joined hs ≡ [] → hs ≡ []
  nothing_left [] h e = refl
  nothing_left ([] ∷ hs) h e = absurd h
  nothing_left ((x ∷ xs) ∷ hs) h e = absurd cc

  pub classes_are_one : (gs hs : List (List X)) → NoneIsEmpty gs → NoneIsEmpty hs → AreClasses same gs → AreClasses same hs → IsPermutation (joined hs) (joined gs) → AreSameGroups hs gs
  classes_are_one [] hs a b c d p = subst (λ l. AreSameGroups l []) (sym (nothing_left hs b (nothing_arranged [] (joined hs) (IsPermutation-sym (joined hs) [] p) refl))) ([], IsPermutation-refl [], tt)
  classes_are_one ([] ∷ gs) hs a b c d p = absurd a
  classes_are_one ((x ∷ xs) ∷ gs) hs a b c d p =
      let all : AsAll x (x ∷ xs) = c.0.0 in
      let apart : AsNone x (joined gs) = none_joined x gs c.1.0 in
      let there : list_any (same x) (joined hs) ≡ true =
      sym (list_any-IsPermutation (same x) (joined ((x ∷ xs) ∷ gs)) (joined hs) (IsPermutation-sym (joined hs) (joined ((x ∷ xs) ∷ gs)) p)) ∙ ap (λ q. q || list_any (same x) (xs ++ joined gs)) (laws.refl x) in
      let own : IsPermutation (class_with x hs) (class_with x ((x ∷ xs) ∷ gs)) =
      subst (λ l. IsPermutation l (class_with x ((x ∷ xs) ∷ gs))) (those_same x hs d) (subst (IsPermutation (filter (same x) (joined hs))) (those_same x ((x ∷ xs) ∷ gs) c) (filter_arranged (same x) (joined hs) (joined ((x ∷ xs) ∷ gs)) p)) in
      let others : IsPermutation (joined (rest x hs)) (joined (rest x ((x ∷ xs) ∷ gs))) =
      subst (λ l. IsPermutation l (joined (rest x ((x ∷ xs) ∷ gs)))) (those_other x hs d) (subst (IsPermutation (filter (other x) (joined hs))) (those_other x ((x ∷ xs) ∷ gs) c) (filter_arranged (other x) (joined hs) (joined ((x ∷ xs) ∷ gs)) p)) in
      let first : list_any (same x) (x ∷ xs) ≡ true = ap (λ q. q || list_any (same x) xs) (laws.refl x) in
      let own' : IsPermutation (class_with x hs) (x ∷ xs) = subst (λ q. IsPermutation (class_with x hs) (cond q (x ∷ xs) (class_with x gs))) first own in
      let others' : IsPermutation (joined (rest x hs)) (joined gs) = subst (λ q. IsPermutation (joined (rest x hs)) (joined (cond q gs ((x ∷ xs) ∷ rest x gs)))) first others in
      let (fs, q, r) = classes_are_one gs (rest x hs) a (rest_some x hs b) c.2 (rest_classes x hs d) others' in
      (class_with x hs ∷ fs, IsPermutation-trans hs (class_with x hs ∷ rest x hs) (class_with x hs ∷ fs) (class_first x hs there) (IsPermutation-cons (class_with x hs) (rest x hs) fs q), (own', r))
