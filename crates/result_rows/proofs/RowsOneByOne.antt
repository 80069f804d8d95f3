-- Rows that are kept one by one.
use Rattle.std.proofs.Common.{◌≡◌, ◌∙◌, refl, sym, ap, ap₂, ℕ, List, [], ◌∷◌, ◌++◌, Bool, true, false, cond, map, Option, Some, None, is_some, append_assoc, true≢false}
use Rattle.std.specs.Prelude.{not, nat_eq, flat_map, IfSome}
use Rattle.std.specs.Cmp.Lexicographic.{pointwise}
use Rattle.std.specs.List.{AllByRecursion, list_any}
use Rattle.std.proofs.lemmas.Grind.{flat_map-append}
use Rattle.std.proofs.lemmas.List.{append-nil}
use Rattle.definitions.specs.Table.{Row}
use Rattle.definitions.specs.Printing.{row_line}
use Rattle.definitions.specs.Queries.Answer.{distinct_rows}
use Rattle.definitions.specs.Lists.{without_repeats}
use Rattle.definitions.specs.Queries.Grouping.{same_values}
use Rattle.definitions_answers.specs.Lines.{IsInBounds, IsRowOf, with_line}
use Rattle.definitions_answers.specs.Shapes.{Shape, HasShapes}
use Rattle.definitions_answers.proofs.Left.{repeats_one_by_one}
use Rattle.definitions_answers.proofs.LinesBack.{any_line, lines_one_by_one}
use Rattle.definitions_answers.proofs.Taken.{all_left}
use Rattle.result_lines.specs.Lines.{lines_of, IsNotedLine}
use Rattle.result_rows.specs.ResultRows.{AreLinesOf}
use Rattle.result_lines.specs.declared.lines.DistinctLines.{DistinctLines}

-- ---- of all rows and one more

pub first_all : {X : Type 0} (P : X → Type 0) (xs : List X) (x : X) → AllByRecursion P (xs ++ x ∷ []) → AllByRecursion P xs
first_all P [] x h = tt
first_all P (y ∷ ys) x h = (h.0, first_all P ys x h.1)

pub last_of : {X : Type 0} (P : X → Type 0) (xs : List X) (x : X) → AllByRecursion P (xs ++ x ∷ []) → P x
last_of P [] x h = h.0
last_of P (y ∷ ys) x h = last_of P ys x h.1

pub one_more : {X : Type 0} (P : X → Type 0) (xs : List X) (x : X) → AllByRecursion P xs → P x → AllByRecursion P (xs ++ x ∷ [])
one_more P [] x h p = (p, tt)
one_more P (y ∷ ys) x h p = (h.0, one_more P ys x h.1 p)

are_rows : (shapes : List Shape) (rows : List Row) → AllByRecursion (HasShapes shapes) rows → AllByRecursion (AllByRecursion IsInBounds) rows → AllByRecursion (IsRowOf shapes) rows
are_rows shapes [] h b = tt
are_rows shapes (r ∷ rows) h b = (record { shaped = h.0; bounded = b.0 }, are_rows shapes rows h.1 b.1)

module _ (shapes : List Shape) (rows : List Row) (row : Row) (h : AllByRecursion (HasShapes shapes) (rows ++ row ∷ [])) (bounds : AllByRecursion (AllByRecursion IsInBounds) rows) (bound : AllByRecursion IsInBounds row) where
  abbrev left : List Row
  left = without_repeats same_values rows

  abbrev before : Bool
  before = list_any (λ r. same_values r row) left

  own : IsRowOf shapes row
  own = record { shaped = last_of (HasShapes shapes) rows row h; bounded = bound }

  those : AllByRecursion (IsRowOf shapes) left
  those = all_left same_values (IsRowOf shapes) rows (are_rows shapes rows (first_all (HasShapes shapes) rows row h) bounds)

  more_lines : (lines : List (List ℕ)) → lines ≡ map row_line left → with_line lines (row_line row) ≡ map row_line (without_repeats same_values (rows ++ row ∷ []))
  more_lines lines is = ap (λ ls. with_line ls (row_line row)) is ∙ lines_one_by_one shapes left row those own ∙ ap (map row_line) (sym (repeats_one_by_one rows row))

  came_before : (lines : List (List ℕ)) → lines ≡ map row_line left → list_any (pointwise nat_eq (row_line row)) lines ≡ before
  came_before lines is = ap (list_any (pointwise nat_eq (row_line row))) is ∙ any_line shapes left row those own

  new_row : before ≡ false → without_repeats same_values (rows ++ row ∷ []) ≡ left ++ row ∷ []
  new_row e = repeats_one_by_one rows row ∙ ap (λ t. cond t left (left ++ row ∷ [])) e

  old_row : before ≡ true → without_repeats same_values (rows ++ row ∷ []) ≡ left
  old_row e = repeats_one_by_one rows row ∙ ap (λ t. cond t left (left ++ row ∷ [])) e

-- ---- a row is noted among lines, where lines are kept

pub lines_more : (rows : List Row) (row : Row) (lines after : DistinctLines) → AllByRecursion IsInBounds row → lines_of after ≡ with_line (lines_of lines) (row_line row) → AreLinesOf rows lines → AreLinesOf (rows ++ row ∷ []) after
lines_more rows row lines after bound is h = record {
  each = λ shapes has. is ∙ more_lines shapes rows row has h.bounded bound (lines_of lines) (h.each shapes (first_all (HasShapes shapes) rows row has));
  bounded = one_more (AllByRecursion IsInBounds) rows row h.bounded bound;
}

is_false : (b : Bool) → true ≡ not b → b ≡ false
is_false true e = absurd (true≢false e)
is_false false e = refl

is_true : (b : Bool) → false ≡ not b → b ≡ true
is_true true e = refl
is_true false e = absurd (true≢false (sym e))

module _ (rows : List Row) (row : Row) where
  pub seen_more : (before after : Option DistinctLines) (new : Bool) → is_some after ≡ is_some before → (is_some before ≡ true → AllByRecursion IsInBounds row) → IsNotedLine before after new row → IfSome before (AreLinesOf rows)
      → IfSome after (AreLinesOf (rows ++ row ∷ []))
  seen_more None None new same bound noted h = tt
  seen_more None (Some y) new same bound noted h = absurd (true≢false same)
  seen_more (Some x) None new same bound noted h = absurd (true≢false (sym same))
  seen_more (Some x) (Some y) new same bound noted h = lines_more rows row x y (bound refl) noted.0 h

  module _ (shapes : List Shape) (has : AllByRecursion (HasShapes shapes) (rows ++ row ∷ [])) where
    front : AllByRecursion (HasShapes shapes) rows
    front = first_all (HasShapes shapes) rows row has

    pub left_new : (before after : Option DistinctLines) → (is_some before ≡ true → AllByRecursion IsInBounds row) → IsNotedLine before after true row → IfSome before (AreLinesOf rows)
        → distinct_rows (is_some before) (rows ++ row ∷ []) ≡ distinct_rows (is_some before) rows ++ row ∷ []
    left_new None after bound noted h = refl
    left_new (Some x) after bound noted h =
        new_row shapes rows row has h.bounded (bound refl) (sym (came_before shapes rows row has h.bounded (bound refl) (lines_of x) (h.each shapes front)) ∙ is_false (list_any (pointwise nat_eq (row_line row)) (lines_of x)) noted.1)

    pub left_old : (before after : Option DistinctLines) → (is_some before ≡ true → AllByRecursion IsInBounds row) → IsNotedLine before after false row → IfSome before (AreLinesOf rows)
        → distinct_rows (is_some before) (rows ++ row ∷ []) ≡ distinct_rows (is_some before) rows
    left_old None after bound noted h = absurd (true≢false (sym noted))
    left_old (Some x) after bound noted h =
        old_row shapes rows row has h.bounded (bound refl) (sym (came_before shapes rows row has h.bounded (bound refl) (lines_of x) (h.each shapes front)) ∙ is_true (list_any (pointwise nat_eq (row_line row)) (lines_of x)) noted.1)

-- ---- rows that are kept

-- of rows and one more, where it is new, and where it came before
pub kept_new : (rows : List Row) (row : Row) (before after : Option DistinctLines) → is_some after ≡ is_some before → (is_some before ≡ true → AllByRecursion IsInBounds row) → IsNotedLine before after true row → IfSome before (AreLinesOf rows)
    → {X : Type 0} (f : List Row → List X) (kept kept' own : List X) → kept' ≡ kept ++ own → ((rs : List Row) → f (rs ++ row ∷ []) ≡ f rs ++ own)
    → ((shapes : List Shape) → AllByRecursion (HasShapes shapes) rows → kept ≡ f (distinct_rows (is_some before) rows))
    → (shapes : List Shape) → AllByRecursion (HasShapes shapes) (rows ++ row ∷ []) → kept' ≡ f (distinct_rows (is_some after) (rows ++ row ∷ []))
kept_new rows row before after same bound noted h f kept kept' own is more were shapes has =
    is ∙ ap (λ ks. ks ++ own) (were shapes (first_all (HasShapes shapes) rows row has)) ∙ sym (more (distinct_rows (is_some before) rows)) ∙ ap f (sym (left_new rows row shapes has before after bound noted h)) ∙ ap (λ d. f (distinct_rows d (rows ++ row ∷ []))) (sym same)

pub kept_old : (rows : List Row) (row : Row) (before after : Option DistinctLines) → is_some after ≡ is_some before → (is_some before ≡ true → AllByRecursion IsInBounds row) → IsNotedLine before after false row → IfSome before (AreLinesOf rows)
    → {X : Type 0} (f : List Row → List X) (kept : List X)
    → ((shapes : List Shape) → AllByRecursion (HasShapes shapes) rows → kept ≡ f (distinct_rows (is_some before) rows))
    → (shapes : List Shape) → AllByRecursion (HasShapes shapes) (rows ++ row ∷ []) → kept ≡ f (distinct_rows (is_some after) (rows ++ row ∷ []))
kept_old rows row before after same bound noted h f kept were shapes has =
    were shapes (first_all (HasShapes shapes) rows row has) ∙ ap f (sym (left_old rows row shapes has before after bound noted h)) ∙ ap (λ d. f (distinct_rows d (rows ++ row ∷ []))) (sym same)

-- ---- texts

pub text_more : (text line after front : List ℕ) (rows : List Row) (row : Row) → after ≡ text ++ line → line ≡ row_line row → text ≡ front ++ flat_map row_line rows → after ≡ front ++ flat_map row_line (rows ++ row ∷ [])
text_more text line after front rows row e f h =
    e ∙ ap₂ (λ a b. a ++ b) h f ∙ append_assoc front (flat_map row_line rows) (row_line row)
    ∙ ap (λ t. front ++ t) (sym (flat_map-append row_line rows (row ∷ []) ∙ ap (λ t. flat_map row_line rows ++ t) (append-nil (row_line row))))

-- lines one after another are what their rows print
pub joined_rows : (rows : List Row) → flat_map (λ line. line) (map row_line rows) ≡ flat_map row_line rows
joined_rows [] = refl
joined_rows (r ∷ rows) = ap (λ t. row_line r ++ t) (joined_rows rows)
