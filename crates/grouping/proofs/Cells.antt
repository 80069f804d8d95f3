-- The values of a column, taken in.
use Rattle.std.proofs.Common.{◌≡◌, ◌∙◌, sym, ap, subst, ℕ, zero, suc, ◌+◌, ◌^◌, ◌<◌, List, [], ◌∷◌, ◌++◌, false, not, length, get_or, map, take, arith, ℤ}
use Rattle.std.specs.Prelude.{nat_abs, All, FitsSigned}
use Rattle.std.specs.Int.{w64}
use Rattle.std.specs.List.{AllByRecursion}
use Rattle.std.proofs.lemmas.Int.{ints}
use Rattle.std.proofs.lemmas.List.{map-append, take_more}
use Rattle.std.proofs.lemmas.List.Elements.{filter-append}
use Rattle.definitions.specs.Value.{Value, is_null}
use Rattle.definitions.specs.Queries.Grouping.{taken}
use Rattle.definitions_answers.specs.Lines.{IsInBounds}
use Rattle.definitions_answers.specs.Shapes.{Shape, HasShape, IsThere}
use Rattle.definitions_answers.proofs.Taken.{all_joined, taken_there}
use Rattle.grouping.specs.Units.{numbers_at}

in_bounds : (unit : ℤ) → FitsSigned w64 unit → nat_abs unit < 10 ^ 38
in_bounds unit h = grind (arith, ints, h)

pub numbers_bounded : (scale : ℕ) (units : List ℤ) → All (FitsSigned w64) units → AllByRecursion IsInBounds (numbers_at scale units)
numbers_bounded scale [] h = tt
numbers_bounded scale (unit ∷ units) h = (in_bounds unit (h 0 unit (omega arith)), numbers_bounded scale units (λ k d l. h (suc k) d (omega (arith, l))))

-- ---- one after another

module _ (value_in : ℕ → Value) where
  pub cells_more : (rows : List ℕ) (i : ℕ) (v : Value) → i < length rows → v ≡ value_in (get_or rows i 0) → taken false (map value_in (take (i + 1) rows)) ≡ taken false (map value_in (take i rows)) ++ taken false (v ∷ [])
  cells_more rows i v l e =
      ap (λ rs. taken false (map value_in rs)) (take_more rows i 0 l)
      ∙ ap (taken false) (map-append value_in (take i rows) (get_or rows i 0 ∷ []))
      ∙ filter-append (λ w. not (is_null w)) (map value_in (take i rows)) (value_in (get_or rows i 0) ∷ [])
      ∙ ap (λ w. taken false (map value_in (take i rows)) ++ taken false (w ∷ [])) (sym e)

  cell_all : (P : Value → Type 0) (rows : List ℕ) (i : ℕ) → i < length rows → AllByRecursion P (map value_in rows) → P (value_in (get_or rows i 0))
  cell_all P [] i l h = absurd (omega (arith, l))
  cell_all P (row ∷ rows) zero l h = h.0
  cell_all P (row ∷ rows) (suc i) l h = cell_all P rows i (omega (arith, l)) h.1

  pub cell_shaped : (shape : Shape) (rows : List ℕ) (i : ℕ) (v : Value) → i < length rows → v ≡ value_in (get_or rows i 0) → AllByRecursion (HasShape shape) (map value_in rows) → HasShape shape v
  cell_shaped shape rows i v l e h = subst (HasShape shape) (sym e) (cell_all (HasShape shape) rows i l h)

  cells_before : (P : Value → Type 0) (i : ℕ) (rows : List ℕ) → AllByRecursion P (map value_in rows) → AllByRecursion P (map value_in (take i rows))
  cells_before P zero rows h = tt
  cells_before P (suc i) [] h = tt
  cells_before P (suc i) (row ∷ rows) h = (h.0, cells_before P i rows h.1)

  pub there_before : (shape : Shape) (vs : List Value) (i : ℕ) (rows : List ℕ) → AllByRecursion (IsThere shape) vs → AllByRecursion (HasShape shape) (map value_in rows) → AllByRecursion (IsThere shape) (vs ++ taken false (map value_in (take i rows)))
  there_before shape vs i rows all h = all_joined (IsThere shape) vs (taken false (map value_in (take i rows))) all (taken_there false shape (map value_in (take i rows)) (cells_before (HasShape shape) i rows h))
