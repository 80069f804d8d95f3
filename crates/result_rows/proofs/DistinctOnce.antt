-- Rows that are printed once each, and one row more.
use Rattle.std.proofs.Common.{◌≡◌, ◌∙◌, refl, sym, ap, subst, ℕ, ℤ, List, [], ◌∷◌, ◌++◌, true}
use Rattle.std.specs.Prelude.{FitsSigned}
use Rattle.std.specs.Int.{w64}
use Rattle.std.specs.List.{AllByRecursion}
use Rattle.definitions.specs.Printing.{row_line}
use Rattle.definitions.specs.Table.{Row}
use Rattle.definitions.specs.Value.{Number}
use Rattle.definitions_answers.specs.Lines.{with_line, IsInBounds}
use Rattle.result_lines.specs.Lines.{has_line, lines_of, number_line}
use Rattle.result_rows.specs.ResultRows.{HasDistinct}
use Rattle.result_lines.specs.SeenUnits.{has_unit}
use Rattle.result_rows.specs.declared.distinct_rows.DistinctRows.{DistinctRows}
use Rattle.result_lines.proofs.Repeats.{all_noted, in_bounds, line_added, line_repeats, line_stays}
use Rattle.result_rows.proofs.RowsOneByOne.{lines_more}

module _ (names : List (List ℕ)) (rows : List Row) (row : Row) (d d' : DistinctRows) (h : HasDistinct names rows d) where
  -- its line is added, and what is remembered stays
  pub row_added : AllByRecursion IsInBounds row → d'.header ≡ d.header → d'.seen ≡ d.seen → d'.scale ≡ d.scale → lines_of d'.lines ≡ with_line (lines_of d.lines) (row_line row) → HasDistinct names (rows ++ row ∷ []) d'
  row_added bound header seen scale lines = record {
    header = ap (λ t. t.items) header ∙ h.header;
    lines = lines_more rows row d.lines d'.lines bound lines h.lines;
    seen = λ unit k.
        subst (λ s. has_line (lines_of d'.lines) (number_line s unit) ≡ true) (sym scale)
        (subst (λ ls. has_line ls (number_line d.scale unit) ≡ true) (sym lines) (line_stays (lines_of d.lines) (row_line row) _ (h.seen unit (subst (λ us. has_unit us unit ≡ true) seen k))));
  }

  -- or it is that of a number, which is noted
  pub number_added : (unit : ℤ) → row ≡ Number unit d.scale ∷ [] → AllByRecursion IsInBounds row → d'.header ≡ d.header → d'.scale ≡ d.scale → lines_of d'.lines ≡ with_line (lines_of d.lines) (row_line row)
      → ((other : ℤ) → has_unit d'.seen other ≡ true → has_unit (unit ∷ d.seen) other ≡ true) → HasDistinct names (rows ++ row ∷ []) d'
  number_added unit is bound header scale lines noted = record {
    header = ap (λ t. t.items) header ∙ h.header;
    lines = lines_more rows row d.lines d'.lines bound lines h.lines;
    seen = all_noted (λ other. has_line (lines_of d'.lines) (number_line d'.scale other) ≡ true) d.seen d'.seen unit noted (λ other k. there other (line_stays (lines_of d.lines) (row_line row) _ (h.seen other k)))
        (there unit (subst (λ r. has_line (with_line (lines_of d.lines) (row_line row)) (row_line r) ≡ true) is (line_added (lines_of d.lines) (row_line row))));
  }
    where
      there : (other : ℤ) → has_line (with_line (lines_of d.lines) (row_line row)) (number_line d.scale other) ≡ true → has_line (lines_of d'.lines) (number_line d'.scale other) ≡ true
      there other k = subst (λ s. has_line (lines_of d'.lines) (number_line s other) ≡ true) (sym scale) (subst (λ ls. has_line ls (number_line d.scale other) ≡ true) (sym lines) k)

-- a number that is remembered is there
pub number_repeats : (names : List (List ℕ)) (rows : List Row) (row : Row) (d : DistinctRows) (unit : ℤ) → row ≡ Number unit d.scale ∷ [] → FitsSigned w64 unit → has_unit d.seen unit ≡ true → HasDistinct names rows d
    → HasDistinct names (rows ++ row ∷ []) d
number_repeats names rows row d unit is fits seen h =
    row_added names rows row d d h (subst (AllByRecursion IsInBounds) (sym is) (in_bounds unit fits, tt)) refl refl refl
    (line_repeats (lines_of d.lines) (row_line row) (subst (λ r. has_line (lines_of d.lines) (row_line r) ≡ true) (sym is) (h.seen unit seen)))
