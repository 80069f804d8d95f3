-- Columns that are added at the end of a list, none twice.
use Rattle.std.proofs.Common.{◌≡◌, ◌∙◌, refl, sym, ap, ℕ, ◌+◌, ◌<◌, ◌≤◌, ◌⊎◌, inl, inr, List, [], ◌∷◌, ◌++◌, Option, Some, None, length, map, get_or, arith, subst}
use Rattle.std.specs.Prelude.{slice_get}
use Rattle.std.proofs.lemmas.Bool.{cases_lt}
use Rattle.std.proofs.lemmas.List.{length-append, length-map, get_or_append_left}
use Rattle.std.proofs.Math.Seq.{get_or-append_seam}
use Rattle.definitions.specs.Plans.Order.{BlockColumn}
use Rattle.interesting_orders.specs.Labels.{column_at, no_column}
use Rattle.interesting_orders.specs.Classes.{AreDistinct}
use Rattle.definitions.specs.Plans.Conjunct.{Conjunct}
use Rattle.estimate.specs.PlanConjuncts.{conjunct_of}
use Rattle.estimate.specs.declared.plan_conjunct.PlanConjunct.{PlanConjunct}
use Rattle.interesting_orders.specs.Places.{sides_of, HasColumn, HasSides, HaveSides, IsGrown}
use Rattle.interesting_orders.proofs.Each.{mapped_at, within}

pub unchanged : (columns : List BlockColumn) → IsGrown columns columns
unchanged columns = record { longer = omega arith; kept = λ place h. refl; distinct = λ d. d }

pub grown_twice : (a b c : List BlockColumn) → IsGrown a b → IsGrown b c → IsGrown a c
grown_twice a b c first then' = record {
  longer = omega (arith, first.longer, then'.longer);
  kept = λ place h. then'.kept place (omega (arith, h, first.longer)) ∙ first.kept place h;
  distinct = λ d. then'.distinct (first.distinct d);
}

pub has_still : (a b : List BlockColumn) (x : BlockColumn) → IsGrown a b → HasColumn a x → HasColumn b x
has_still a b x grown (place, within, is) = (place, omega (arith, within, grown.longer), grown.kept place within ∙ is)

pub have_still : (a b : List BlockColumn) (sides : Option (BlockColumn × BlockColumn)) → IsGrown a b → HasSides a sides → HasSides b sides
have_still a b None grown has = tt
have_still a b (Some (x, y)) grown has = (has_still a b x grown has.0, has_still a b y grown has.1)

module _ (columns : List BlockColumn) (x : BlockColumn) where
  abbrev after : List BlockColumn
  after = columns ++ x ∷ []

  count : length after ≡ length columns + 1
  count = length-append columns (x ∷ [])

  kept : (place : ℕ) → place < length columns → column_at after place ≡ column_at columns place
  kept place h = get_or_append_left columns (x ∷ []) no_column place h

  last : column_at after (length columns) ≡ x
  last = get_or-append_seam columns x [] no_column

  pub has_last : HasColumn after x
  has_last = (length columns, omega (arith, count), last)

  distinct : (HasColumn columns x → ⊥) → AreDistinct columns → AreDistinct after
  distinct new d i j hi hj same = by_places i j hi hj same (cases_lt i (length columns)) (cases_lt j (length columns))
    where
      by_places : (i j : ℕ) → i < length after → j < length after → column_at after i ≡ column_at after j → (i < length columns) ⊎ (length columns ≤ i) → (j < length columns) ⊎ (length columns ≤ j) → i ≡ j
      by_places i j hi hj same (inl li) (inl lj) = d i j li lj (sym (kept i li) ∙ same ∙ kept j lj)
      by_places i j hi hj same (inl li) (inr gj) =
          let e : j ≡ length columns = omega (arith, hj, gj, count) in
          absurd (new (i, li, sym (kept i li) ∙ same ∙ ap (column_at after) e ∙ last))
      by_places i j hi hj same (inr gi) (inl lj) =
          let e : i ≡ length columns = omega (arith, hi, gi, count) in
          absurd (new (j, lj, sym (kept j lj) ∙ sym same ∙ ap (column_at after) e ∙ last))
      by_places i j hi hj same (inr gi) (inr gj) = omega (arith, hi, hj, gi, gj, count)

  pub put_last : (HasColumn columns x → ⊥) → IsGrown columns after
  put_last new = record { longer = omega (arith, count); kept = kept; distinct = distinct new }

-- ---- the columns of conjuncts, one after another

abbrev HaveSidesBefore : List BlockColumn → List PlanConjunct → ℕ → Type 0
HaveSidesBefore columns conjuncts count = (number : ℕ) (c : Conjunct) → number < count → slice_get (map conjunct_of conjuncts) number ≡ Some c → HasSides columns (sides_of c)

pub next_sides : (before after : List BlockColumn) (conjuncts : List PlanConjunct) (count : ℕ) (here : PlanConjunct) → count < length conjuncts → here ≡ get_or conjuncts count here → IsGrown before after
    → HaveSidesBefore before conjuncts count → HasSides after (sides_of (conjunct_of here)) → HaveSidesBefore after conjuncts (count + 1)
next_sides before after conjuncts count here lt is grown have has number c below e = by_number number c below e (cases_lt number count)
  where
    by_number : (number : ℕ) (c : Conjunct) → number < count + 1 → slice_get (map conjunct_of conjuncts) number ≡ Some c → (number < count) ⊎ (count ≤ number) → HasSides after (sides_of c)
    by_number number c below e (inl less) = have_still before after (sides_of c) grown (have number c less e)
    by_number number c below e (inr ge) =
        let same : number ≡ count = omega (arith, below, ge) in
        let at = subst (λ n. slice_get (map conjunct_of conjuncts) n ≡ Some c) same e in
        let there = mapped_at conjunct_of conjuncts count here lt is in
        let both : Some (conjunct_of here) ≡ Some c = sym there ∙ at in
        let one : conjunct_of here ≡ c = cc in
        subst (λ x. HasSides after (sides_of x)) one has

pub all_sides : (columns : List BlockColumn) (conjuncts : List PlanConjunct) (count : ℕ) → length conjuncts ≤ count → HaveSidesBefore columns conjuncts count → HaveSides columns (map conjunct_of conjuncts)
all_sides columns conjuncts count all have number c e = have number c (omega (arith, all, within (map conjunct_of conjuncts) number c e, length-map conjuncts conjunct_of)) e
