-- The equations that conjuncts say, by the places of their columns.
use Prim.Native.Nat.{zero}
use Rattle.std.proofs.Common.{suc, ◌≡◌, ◌∙◌, refl, sym, subst, ℕ, ◌<◌, inl, inr, List, [], ◌∷◌, Bool, true, false, Option, Some, None, length, get_or, arith, cond}
use Rattle.std.specs.Prelude.{slice_get, All}
use Rattle.std.proofs.lemmas.List.{get_or_default}
use Rattle.definitions.specs.Plans.Order.{BlockColumn}
use Rattle.definitions.specs.Plans.Conjunct.{Conjunct}
use Rattle.definitions.specs.Plans.Space.{Space}
use Rattle.definitions.specs.Plans.ColumnClass.{Equates}
use Rattle.interesting_orders.specs.Labels.{column_at, IsBetween}
use Rattle.interesting_orders.specs.Classes.{no_equation, AreEquations, Says}
use Rattle.interesting_orders.specs.declared.equivalence_classes.Equality.{Equality}
use Rattle.interesting_orders.specs.Places.{given, sides_of, AreBetween, AreStated, HasSides, HaveSides, IsEquation}

was_given : (es : List (Option Equality)) (place : ℕ) → place < length (given es) → (number : ℕ) × (number < length es) × (get_or es number None ≡ Some (get_or (given es) place no_equation))
was_given [] place h = absurd (omega (arith, h))
was_given (None ∷ es) place h = let r = was_given es place h in (suc r.0, omega (arith, r.1), r.2)
was_given (Some e ∷ es) zero h = (0, omega arith, refl)
was_given (Some e ∷ es) (suc place) h = let r = was_given es place (omega (arith, h)) in (suc r.0, omega (arith, r.1), r.2)

is_given : (es : List (Option Equality)) (number : ℕ) (e : Equality) → get_or es number None ≡ Some e → (place : ℕ) × (place < length (given es)) × (get_or (given es) place no_equation ≡ e)
is_given [] zero e h = absurd cc
is_given [] (suc number) e h = absurd cc
is_given (None ∷ es) zero e h = absurd cc
is_given (None ∷ es) (suc number) e h = is_given es number e h
is_given (Some x ∷ es) zero e h = (0, omega arith, cc)
is_given (Some x ∷ es) (suc number) e h = let r = is_given es number e h in (suc r.0, omega (arith, r.1), r.2)

pub all_between : (count : ℕ) (es : List (Option Equality)) → All (AreBetween count) es → All (IsBetween count) (given es)
all_between count es all place d h =
    let r = was_given es place h in
    subst (IsBetween count) (get_or_default (given es) place no_equation d h) (all r.0 None r.1 (get_or (given es) place no_equation) r.2)

of_equation : (columns : List BlockColumn) (sides : Option (BlockColumn × BlockColumn)) (o : Option Equality) → IsEquation columns sides o → AreBetween (length columns) o
of_equation columns sides None is e h = absurd cc
of_equation columns None (Some e') is e h = absurd is
of_equation columns (Some (x, y)) (Some e') is e h = let same : e' ≡ e = cc in subst (IsBetween (length columns)) same is.0

pub stated_between : (columns : List BlockColumn) (conjuncts : List Conjunct) (es : List (Option Equality)) → AreStated columns conjuncts es → All (AreBetween (length columns)) es
stated_between columns conjuncts es stated place d h =
    let within : place < length conjuncts = omega (arith, h, stated.len) in
    of_conjunct (slice_get conjuncts place) refl within
  where
    of_conjunct : (o : Option Conjunct) → slice_get conjuncts place ≡ o → place < length conjuncts → AreBetween (length columns) (get_or es place d)
    of_conjunct None e within = absurd (there conjuncts place within e)
      where
        there : (cs : List Conjunct) (n : ℕ) → n < length cs → slice_get cs n ≡ None → ⊥
        there [] n lt e = absurd (omega (arith, lt))
        there (x ∷ cs) zero lt e = absurd cc
        there (x ∷ cs) (suc n) lt e = there cs n (omega (arith, lt)) e
    of_conjunct (Some x) e within = of_equation columns (sides_of x) (get_or es place d) (stated.each place x d e)

-- ---- what an equation says of its conjunct

pub are_sides : (c : Conjunct) (x y : BlockColumn) → sides_of c ≡ Some (x, y) → (c.early ≡ true) × (c.equated ≡ Some (x, y))
are_sides c x y e = by_early c.early c.equated refl refl e
  where
    by_early : (b : Bool) (o : Option (BlockColumn × BlockColumn)) → c.early ≡ b → c.equated ≡ o → cond b o None ≡ Some (x, y) → (c.early ≡ true) × (c.equated ≡ Some (x, y))
    by_early true o eb eo e = (eb, eo ∙ e)
    by_early false o eb eo e = absurd cc

pub has_sides : (c : Conjunct) (p : BlockColumn × BlockColumn) → c.early ≡ true → c.equated ≡ Some p → sides_of c ≡ Some p
has_sides c p early equated = subst (λ b. cond b c.equated None ≡ Some p) (sym early) equated

module _ (space : Space) (columns : List BlockColumn) (es : List (Option Equality)) (has : HaveSides columns space.conjuncts) (stated : AreStated columns space.conjuncts es) where
  -- the conjunct of an equation
  pub stated_by : (number : ℕ) (e : Equality) → get_or es number None ≡ Some e
      → (c : Conjunct) × (slice_get space.conjuncts number ≡ Some c) × (c.early ≡ true) × (c.equated ≡ Some (column_at columns e.left, column_at columns e.right))
  stated_by number e is = of_conjunct (slice_get space.conjuncts number) refl
    where
      beyond : (xs : List (Option Equality)) (cs : List Conjunct) (n : ℕ) → length xs ≡ length cs → slice_get cs n ≡ None → get_or xs n None ≡ None
      beyond [] cs zero len e = refl
      beyond [] cs (suc n) len e = refl
      beyond (x ∷ xs) [] n len e = absurd (omega (arith, len))
      beyond (x ∷ xs) (c ∷ cs) zero len e = absurd cc
      beyond (x ∷ xs) (c ∷ cs) (suc n) len e = beyond xs cs n (omega (arith, len)) e

      of_sides : (o : Option (BlockColumn × BlockColumn)) → IsEquation columns o (Some e) → o ≡ Some (column_at columns e.left, column_at columns e.right)
      of_sides None h = absurd h
      of_sides (Some (x, y)) (within, left, right) = rw left (rw right refl)

      of_conjunct : (o : Option Conjunct) → slice_get space.conjuncts number ≡ o
          → (c : Conjunct) × (slice_get space.conjuncts number ≡ Some c) × (c.early ≡ true) × (c.equated ≡ Some (column_at columns e.left, column_at columns e.right))
      of_conjunct None h = let none = beyond es space.conjuncts number stated.len h in absurd cc
      of_conjunct (Some c) h =
          let says : IsEquation columns (sides_of c) (Some e) = subst (IsEquation columns (sides_of c)) is (stated.each number c None h) in
          let are = are_sides c (column_at columns e.left) (column_at columns e.right) (of_sides (sides_of c) says) in
          (c, h, are.0, are.1)

  -- the equation of a conjunct
  pub states : (number : ℕ) (c : Conjunct) (x y : BlockColumn) → slice_get space.conjuncts number ≡ Some c → c.early ≡ true → c.equated ≡ Some (x, y)
      → (e : Equality) × (get_or es number None ≡ Some e) × (column_at columns e.left ≡ x) × (column_at columns e.right ≡ y)
  states number c x y is early equated =
      let sides = has_sides c (x, y) early equated in
      of_equation (get_or es number None) refl (subst (λ s. IsEquation columns s (get_or es number None)) sides (stated.each number c None is)) (subst (HasSides columns) sides (has number c is))
    where
      of_equation : (o : Option Equality) → get_or es number None ≡ o → IsEquation columns (Some (x, y)) o → HasSides columns (Some (x, y))
          → (e : Equality) × (get_or es number None ≡ Some e) × (column_at columns e.left ≡ x) × (column_at columns e.right ≡ y)
      of_equation None h not_there there = absurd (not_there there)
      of_equation (Some e) h (within, left, right) there = (e, h, left, right)

  pub are_equations : AreEquations space columns (given es)
  are_equations = record {
    hold = λ place h. let r = was_given es place h in let c = stated_by r.0 (get_or (given es) place no_equation) r.2 in (r.0, (c.0, c.1, c.2, inl c.3));
    all = λ number a b eq. of_equates number a b eq;
  }
    where
      of_equates : (number : ℕ) (a b : BlockColumn) → Equates space number a b → (place : ℕ) × (place < length (given es)) × Says columns (get_or (given es) place no_equation) a b
      of_equates number a b (c, is, early, inl equated) =
          let s = states number c a b is early equated in
          let r = is_given es number s.0 s.1 in
          (r.0, r.1, rw r.2 (inl (s.2, s.3)))
      of_equates number a b (c, is, early, inr equated) =
          let s = states number c b a is early equated in
          let r = is_given es number s.0 s.1 in
          (r.0, r.1, rw r.2 (inr (s.2, s.3)))
