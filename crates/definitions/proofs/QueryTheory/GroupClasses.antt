-- The classes of a list: elements of one are the same, elements of two are not.
use Rattle.std.proofs.Common.{◌≡◌, refl, sym, ap, ap₂, ◌∙◌, List, [], ◌∷◌, true, false}
use Rattle.std.specs.Prelude.{Bool, ◌&&◌, ◌||◌, if◌then◌else◌, ⊤}
use Rattle.std.specs.List.{AllByRecursion, list_any}
use Rattle.std.specs.Cmp.{IsEquivalence}
use Rattle.std.proofs.lemmas.Bool.{or_parts}
use mathlib.Core.Bool.{true≢false}
use Rattle.std.specs.Cmp.{eq_by_cmp_equiv}
use Rattle.definitions.specs.Value.{Value}
use Rattle.definitions.specs.Plans.Order.{BlockColumn}
use Rattle.definitions.specs.Queries.Evaluation.{Combination}
use Rattle.definitions.specs.Queries.Grouping.{same_value, same_values, grouping_values, with_element, classes_of}
use Rattle.definitions.specs.Queries.Laws.{AreClasses, GroupsAreClasses}
use Rattle.definitions.proofs.Ranking.{rank_total}

module _ {X : Type 0} (same : X → X → Bool) (laws : IsEquivalence same) where
  -- an element is the same as all of a list, or as none of it
  abbrev AsAll : X → List X → Type 0
  AsAll x xs = AllByRecursion (λ y. same x y ≡ true) xs

  abbrev AsNone : X → List X → Type 0
  AsNone x xs = AllByRecursion (λ y. same x y ≡ false) xs

  abbrev AsNoneOf : X → List (List X) → Type 0
  AsNoneOf x classes = AllByRecursion (AsNone x) classes

  all_of : {A : Type 0} (P Q : A → Type 0) → ((x : A) → P x → Q x) → (xs : List A) → AllByRecursion P xs → AllByRecursion Q xs
  all_of P Q f [] h = tt
  all_of P Q f (x ∷ xs) h = (f x h.0, all_of P Q f xs h.1)

  -- what the one is the same as, the other is too
  carried : (x y : X) → same x y ≡ true → (zs : List X) → AsAll y zs → AsAll x zs
  carried x y e zs h = all_of (λ z. same y z ≡ true) (λ z. same x z ≡ true) (λ z k. laws.congr x y z e ∙ k) zs h

  carried_none : (x y : X) → same x y ≡ true → (zs : List X) → AsNone y zs → AsNone x zs
  carried_none x y e zs h = all_of (λ z. same y z ≡ false) (λ z. same x z ≡ false) (λ z k. laws.congr x y z e ∙ k) zs h

  -- what holds of an element of the class that is the same holds of x
  found_step : (P : X → Type 0) (b : Bool) (x y : X) (ys : List X) → same x y ≡ b → list_any (same x) (y ∷ ys) ≡ true → (same x y ≡ true → P y → P x) → P y → (list_any (same x) ys ≡ true → P x) → P x
  found_step P true x y ys k e f g r = f k g
  found_step P false x y ys k e f g r = r (sym (ap (λ b. b || list_any (same x) ys) k) ∙ e)

  found : (P : X → Type 0) (x : X) (class : List X) → ((y : X) → same x y ≡ true → P y → P x) → list_any (same x) class ≡ true → AllByRecursion P class → P x
  found P x [] f e h = absurd (true≢false (sym e))
  found P x (y ∷ ys) f e h = found_step P (same x y) x y ys refl e (f y) h.0 (λ r. found P x ys f r h.1)

  not_found : (x : X) (class : List X) → list_any (same x) class ≡ false → AsNone x class
  not_found x [] e = tt
  not_found x (y ∷ ys) e = let p = or_parts (same x y) (list_any (same x) ys) e in (p.0, not_found x ys p.1)

  two_of : {A : Type 0} (P Q R : A → Type 0) → ((x : A) → P x → Q x → R x) → (xs : List A) → AllByRecursion P xs → AllByRecursion Q xs → AllByRecursion R xs
  two_of P Q R f [] h l = tt
  two_of P Q R f (x ∷ xs) h l = (f x h.0 l.0, two_of P Q R f xs h.1 l.1)

  none_step : (b : Bool) (y x : X) (c : List X) (cs further : List (List X)) → same y x ≡ false → AsNone y c → AsNoneOf y cs → AsNoneOf y further → AsNoneOf y (if b then (x ∷ c) ∷ cs else c ∷ further)
  none_step true y x c cs further s h l k = ((s, h), l)
  none_step false y x c cs further s h l k = (h, k)

  none_of_more : (y x : X) (classes : List (List X)) → same y x ≡ false → AsNoneOf y classes → AsNoneOf y (with_element same x classes)
  none_of_more y x [] s h = ((s, tt), tt)
  none_of_more y x (c ∷ cs) s h = none_step (list_any (same x) c) y x c cs (with_element same x cs) s h.0 h.1 (none_of_more y x cs s h.1)

  join_step : (b : Bool) (x : X) (class : List X) (classes : List (List X)) → list_any (same x) class ≡ b → AreClasses same (class ∷ classes) → AreClasses same (with_element same x classes) → AreClasses same (if b then (x ∷ class) ∷ classes else class ∷ with_element same x classes)
  join_step true x class classes e h r =
      let alike : AsAll x class = found (λ y. AsAll y class) x class (λ y k. carried x y k class) e h.0 in
      let apart : AsNoneOf x classes = found (λ y. AsNoneOf y classes) x class (λ y k l. all_of (AsNone y) (AsNone x) (λ zs m. carried_none x y k zs m) classes l) e h.1 in (
        ((laws.refl x, alike), two_of (λ y. same x y ≡ true) (λ y. AsAll y class) (λ y. AsAll y (x ∷ class)) (λ y k l. (laws.symm y x ∙ k, l)) class alike h.0),
        (apart, h.1),
        h.2,
      )
  join_step false x class classes e h r =
      (h.0, two_of (λ y. same x y ≡ false) (λ y. AsNoneOf y classes) (λ y. AsNoneOf y (with_element same x classes)) (λ y k l. none_of_more y x classes (laws.symm y x ∙ k) l) class (not_found x class e) h.1, r)

  join : (x : X) (classes : List (List X)) → AreClasses same classes → AreClasses same (with_element same x classes)
  join x [] h = (((laws.refl x, tt), tt), (tt, tt), tt)
  join x (class ∷ classes) h = join_step (list_any (same x) class) x class classes refl h (join x classes h.2)

  pub are_classes : (xs : List X) → AreClasses same (classes_of same xs)
  are_classes [] = tt
  are_classes (x ∷ xs) = join x (classes_of same xs) (are_classes xs)

-- ---- lists of values

value_laws : IsEquivalence same_value
value_laws = eq_by_cmp_equiv rank_total

values_refl : (xs : List Value) → same_values xs xs ≡ true
values_refl [] = refl
values_refl (x ∷ xs) = ap₂ ◌&&◌ (value_laws.refl x) (values_refl xs)

values_symm : (xs ys : List Value) → same_values xs ys ≡ same_values ys xs
values_symm [] [] = refl
values_symm [] (y ∷ ys) = refl
values_symm (x ∷ xs) [] = refl
values_symm (x ∷ xs) (y ∷ ys) = ap₂ ◌&&◌ (value_laws.symm x y) (values_symm xs ys)

both_true : (a b : Bool) → (a && b) ≡ true → (a ≡ true) × (b ≡ true)
both_true true b e = (refl, e)
both_true false b e = absurd (true≢false (sym e))

values_congr : (xs ys zs : List Value) → same_values xs ys ≡ true → same_values xs zs ≡ same_values ys zs
values_congr [] [] zs e = refl
values_congr [] (y ∷ ys) zs e = absurd (true≢false (sym e))
values_congr (x ∷ xs) [] zs e = absurd (true≢false (sym e))
values_congr (x ∷ xs) (y ∷ ys) [] e = refl
values_congr (x ∷ xs) (y ∷ ys) (z ∷ zs) e =
    let p = both_true (same_value x y) (same_values xs ys) e in
    ap₂ ◌&&◌ (value_laws.congr x y z p.0) (values_congr xs ys zs p.1)

pub grouping_laws : (columns : List BlockColumn) → IsEquivalence (λ (c d : Combination). same_values (grouping_values columns c) (grouping_values columns d))
grouping_laws columns = record {
  refl = λ c. values_refl (grouping_values columns c);
  symm = λ c d. values_symm (grouping_values columns c) (grouping_values columns d);
  congr = λ c d e h. values_congr (grouping_values columns c) (grouping_values columns d) (grouping_values columns e) h;
}

all_same : (cs ds : List Combination) → AllByRecursion (λ d. AllByRecursion (λ (c : Combination). true ≡ true) cs) ds
all_same cs [] = tt
all_same cs (d ∷ ds) = (each cs, all_same cs ds)
  where
    each : (es : List Combination) → AllByRecursion (λ (c : Combination). true ≡ true) es
    each [] = tt
    each (e ∷ es) = (refl, each es)

none_left : (ds : List Combination) → AllByRecursion (λ (d : Combination). ⊤) ds
none_left [] = tt
none_left (d ∷ ds) = (tt, none_left ds)

pub groups_are_classes : GroupsAreClasses
groups_are_classes [] cs = (all_same cs cs, none_left cs, tt)
groups_are_classes (column ∷ columns) cs = are_classes (λ c d. same_values (grouping_values (column ∷ columns) c) (grouping_values (column ∷ columns) d)) (grouping_laws (column ∷ columns)) cs
