-- Values of rows, rows past the end among them, and how they rank.
use Rattle.std.proofs.Common.{◌≡◌, ◌∙◌, refl, sym, ap, ap₂, ℕ, zero, suc, ◌+◌, ◌-◌, ◌*◌, ◌^◌, ◌<◌, ◌≤◌, List, [], ◌∷◌, Bool, true, false, cond, length, take, drop, get_or, inl, inr, Bor, arith}
use Rattle.std.proofs.lemmas.List.{get_or_default, drop-drop}
use Rattle.std.proofs.Math.ListN.{get_or-eq_default}
use Rattle.std.proofs.lemmas.Int.{ints}
use Rattle.std.specs.Prelude.{is_none, ℤ, pos, ◌*ℤ◌, int_lt, int_le, not, None, ◌⊎◌, FitsSigned, ◌&&◌}
use Rattle.std.specs.Int.{w64}
use Rattle.std.specs.Ordering.{int_cmp, bool_cmp, nat_cmp, ordering_then}
use Rattle.std.specs.Cmp.Lexicographic.{slice_cmp}
use Rattle.std.specs.declared.cmp.Ordering.TheVariants.{Less, Equal, Greater}
use Rattle.definitions.specs.Value.{Value, Null, Number, Text, SqlType, Numbers, Texts, kind_of, scale_of, rank, compare, text_cmp, number_cmp, is_null}
use Rattle.columns.specs.Cells.{CellList}
use Rattle.columns.specs.Numbers.{number_values, numbers_of}
use Rattle.columns.specs.Texts.{text_values, texts_of}
use Rattle.definitions.specs.IndexRun.{is_from, Inclusive, Exclusive}
use Rattle.columns.specs.Starts.{value_in, starts, IsHeld}
use Rattle.columns.specs.declared.lower_bound.LowerBound.{LowerBound}
use Rattle.columns.specs.declared.lower_bound.LowerBound.TheVariants as at
use Rattle.columns.proofs.NumberLists.{number_value}
use Rattle.columns.proofs.TextLists.{text_value}
use Rattle.columns.proofs.Orders.{lt_product, gt_by_tests, ge_by_tests}
use Rattle.definitions.proofs.Ranking.{power_is_positive}

-- a flag that is there
pub there_or_null : (flags : List Bool) (row n : ℕ) → n ≡ length flags → n ≤ row → get_or flags row true ≡ true
there_or_null flags row n e h = get_or-eq_default flags true (omega (arith, e, h))

pub flag_there : (flags : List Bool) (row n : ℕ) (null : Bool) → n ≡ length flags → row < n → null ≡ get_or flags row false → null ≡ get_or flags row true
flag_there flags row n null e h i = i ∙ get_or_default flags row false true (omega (arith, e, h))

pub not_not : (b c : Bool) → b ≡ not c → not b ≡ c
not_not b true e = rw e refl
not_not b false e = rw e refl

pub flag_of : (b c d : Bool) → b ≡ d → b ≡ not c → c ≡ not d
flag_of b true d e f = rw (sym (sym f ∙ e)) refl
flag_of b false d e f = rw (sym (sym f ∙ e)) refl

-- numbers
at_values : (scale : ℕ) (us : List ℤ) (nulls : List Bool) (row : ℕ) → length us ≡ length nulls
    → get_or (number_values scale us nulls) row Null ≡ number_value scale (get_or us row (pos 0)) (get_or nulls row true)
at_values scale [] [] row h = refl
at_values scale [] (n ∷ ns) row h = absurd (omega (arith, h))
at_values scale (u ∷ us) [] row h = absurd (omega (arith, h))
at_values scale (u ∷ us) (n ∷ ns) zero h = refl
at_values scale (u ∷ us) (n ∷ ns) (suc row) h = at_values scale us ns row (omega (arith, h))

module _ (type : SqlType) (us : List ℤ) (nulls : List Bool) (v : CellList) (row : ℕ) (filled : Bool) (paired : length us ≡ length nulls) (view : numbers_of type us nulls ≡ v) (is : filled ≡ not (get_or nulls row true)) where
  pub number_there : value_in v row ≡ number_value (scale_of type) (get_or us row (pos 0)) (not filled)
  number_there = ap (λ (l : CellList). get_or l.values row Null) (sym view) ∙ at_values (scale_of type) us nulls row paired ∙ ap (number_value (scale_of type) (get_or us row (pos 0))) (sym (not_not filled _ is))

  pub absent_number : filled ≡ false → value_in v row ≡ Null
  absent_number e = number_there ∙ ap (λ b. number_value (scale_of type) (get_or us row (pos 0)) (not b)) e

  pub present_number : (u : ℤ) → filled ≡ true → row < length nulls → u ≡ get_or us row u → value_in v row ≡ Number u (scale_of v.type)
  present_number u e within i =
      let own : u ≡ get_or us row (pos 0) = i ∙ get_or_default us row u (pos 0) (omega (arith, within, paired)) in
      number_there ∙ ap₂ (λ b x. number_value (scale_of type) x (not b)) e (sym own) ∙ ap (λ (l : CellList). Number u (scale_of l.type)) view

  pub number_absence : not filled ≡ is_null (value_in v row)
  number_absence = by_flag filled refl
    where
      by_flag : (b : Bool) → filled ≡ b → not filled ≡ is_null (value_in v row)
      by_flag true e = ap not e ∙ sym (ap is_null (number_there ∙ ap (λ b. number_value (scale_of type) (get_or us row (pos 0)) (not b)) e))
      by_flag false e = ap not e ∙ sym (ap is_null (absent_number e))

-- texts
text_at : (n : ℕ) (codes : List ℕ) (nulls : List Bool) (row : ℕ) → get_or (text_values n codes nulls) row Null ≡ text_value (take n (drop (n * row) codes)) (get_or nulls row true)
text_at n codes [] row = refl
text_at n codes (b ∷ nulls) zero = let e : n * zero ≡ 0 = omega arith in rw e refl
text_at n codes (b ∷ nulls) (suc row) =
    let e : n * suc row ≡ n + n * row = omega arith in
    let back : drop (n * row) (drop n codes) ≡ drop (n + n * row) codes = drop-drop (n * row) n codes in
    rw (e, ← back) (text_at n (drop n codes) nulls row)

module _ (n : ℕ) (codes : List ℕ) (nulls : List Bool) (v : CellList) (row : ℕ) (filled : Bool) (view : texts_of n codes nulls ≡ v) (is : filled ≡ not (get_or nulls row true)) where
  text_there : value_in v row ≡ text_value (take n (drop (n * row) codes)) (not filled)
  text_there = ap (λ (l : CellList). get_or l.values row Null) (sym view) ∙ text_at n codes nulls row ∙ ap (text_value (take n (drop (n * row) codes))) (sym (not_not filled _ is))

  pub absent_text : filled ≡ false → value_in v row ≡ Null
  absent_text e = text_there ∙ ap (λ b. text_value (take n (drop (n * row) codes)) (not b)) e

  pub present_text : (own : List ℕ) → filled ≡ true → own ≡ take n (drop (row * n) codes) → value_in v row ≡ Text own
  present_text own e i =
      let at : row * n ≡ n * row = omega arith in
      text_there ∙ ap (λ b. text_value (take n (drop (n * row) codes)) (not b)) e ∙ ap Text (sym (i ∙ ap (λ x. take n (drop x codes)) at))

  pub text_absence : not filled ≡ is_null (value_in v row)
  text_absence = by_flag filled refl
    where
      by_flag : (b : Bool) → filled ≡ b → not filled ≡ is_null (value_in v row)
      by_flag true e = ap not e ∙ sym (ap is_null (text_there ∙ ap (λ b. text_value (take n (drop (n * row) codes)) (not b)) e))
      by_flag false e = ap not e ∙ sym (ap is_null (absent_text e))

-- ---- order

same_cmp : (a b c d : ℤ) → int_lt a b ≡ int_lt c d → int_lt b a ≡ int_lt d c → int_cmp a b ≡ int_cmp c d
same_cmp a b c d e f = ap₂ (λ x y. cond x Less (cond y Greater Equal)) e f

-- numbers of one scale rank as their units
pub units_rank : (x y : ℤ) (scale : ℕ) → int_cmp x y ≡ number_cmp x scale y scale
units_rank x y scale = sym (same_cmp (x *ℤ pos (10 ^ scale)) (y *ℤ pos (10 ^ scale)) x y (lt_product x y (10 ^ scale) (power_is_positive scale)) (lt_product y x (10 ^ scale) (power_is_positive scale)))

-- texts of one length rank code by code
pub codes_rank : (xs ys : List ℕ) → length xs ≡ length ys → slice_cmp nat_cmp xs ys ≡ text_cmp xs ys
codes_rank [] [] e = refl
codes_rank [] (y ∷ ys) e = absurd (omega (arith, e))
codes_rank (x ∷ xs) [] e = absurd (omega (arith, e))
codes_rank (x ∷ xs) (y ∷ ys) e = ap (ordering_then (nat_cmp x y)) (codes_rank xs ys (omega (arith, e)))

-- a null before all others
pub nulls_rank : (a b : Bool) (x y : Value) → not a ≡ is_null x → not b ≡ is_null y → (a ≡ true → b ≡ true → ⊥) → bool_cmp a b ≡ rank x y
nulls_rank true true x y h l n = absurd (n refl refl)
nulls_rank false false Null Null h l n = refl
nulls_rank false false Null (Number u s) h l n = absurd cc
nulls_rank false false Null (Text t) h l n = absurd cc
nulls_rank false false (Number u s) y h l n = absurd cc
nulls_rank false false (Text t) y h l n = absurd cc
nulls_rank false true Null Null h l n = absurd cc
nulls_rank false true Null (Number u s) h l n = refl
nulls_rank false true Null (Text t) h l n = refl
nulls_rank false true (Number u s) y h l n = absurd cc
nulls_rank false true (Text t) y h l n = absurd cc
nulls_rank true false Null y h l n = absurd cc
nulls_rank true false (Number u s) Null h l n = refl
nulls_rank true false (Text t) Null h l n = refl
nulls_rank true false (Number u s) (Number v r) h l n = absurd cc
nulls_rank true false (Number u s) (Text t) h l n = absurd cc
nulls_rank true false (Text t) (Number u s) h l n = absurd cc
nulls_rank true false (Text t) (Text t') h l n = absurd cc

-- ---- where a look-up begins

-- numbers that are not below a number, or above it
pub from_number : (type : SqlType) (v below : ℤ) (n s : ℕ) → s ≡ scale_of type
    → ((u : ℤ) → FitsSigned w64 u → int_lt (u *ℤ pos (10 ^ n)) (v *ℤ pos (10 ^ s)) ≡ int_le u below)
    → (cell : Value) → IsHeld type cell → starts (at.Above below) cell ≡ (not (is_null cell) && is_from (Inclusive (Number v n)) cell)
from_number type v below n s e h Null held = refl
from_number type v below n s e h (Number u r) (kind, scale, fits) =
    rw (scale, ← e) (sym (ge_by_tests (u *ℤ pos (10 ^ n)) (v *ℤ pos (10 ^ s)) ∙ ap not (h u fits)))
from_number type v below n s e h (Text t) held = refl

pub above_number : (type : SqlType) (v most : ℤ) (n s : ℕ) → s ≡ scale_of type
    → ((u : ℤ) → FitsSigned w64 u → int_le (u *ℤ pos (10 ^ n)) (v *ℤ pos (10 ^ s)) ≡ int_le u most)
    → (cell : Value) → IsHeld type cell → starts (at.Above most) cell ≡ (not (is_null cell) && is_from (Exclusive (Number v n)) cell)
above_number type v most n s e h Null held = refl
above_number type v most n s e h (Number u r) (kind, scale, fits) =
    rw (scale, ← e) (sym (gt_by_tests (u *ℤ pos (10 ^ n)) (v *ℤ pos (10 ^ s)) ∙ ap not (h u fits)))
above_number type v most n s e h (Text t) held = refl

pub never_null : (start : LowerBound) → starts start Null ≡ false
never_null at.Filled = refl
never_null (at.Above units) = refl
never_null (at.From text) = refl
never_null (at.Behind text) = refl

pub units_above : (u limit : ℤ) → int_lt limit u ≡ not (int_le u limit)
units_above u limit = grind (arith, ints)

texts_not_numbers : Texts ≡ Numbers → ⊥
texts_not_numbers e = absurd cc

-- no text compares with a null or a number
pub no_text : (v : Value) → ((codes : List ℕ) → v ≡ Text codes → ⊥) → (type : SqlType) → kind_of type ≡ Texts → (cell : Value) → IsHeld type cell → compare cell v ≡ None
no_text v n type k Null h = refl
no_text Null n type k (Number u s) h = refl
no_text (Number v r) n type k (Number u s) h = absurd (texts_not_numbers (sym k ∙ h.0))
no_text (Text t) n type k (Number u s) h = refl
no_text Null n type k (Text c) h = refl
no_text (Number v r) n type k (Text c) h = refl
no_text (Text t) n type k (Text c) h = absurd (n t refl)

pub filled_starts : (scale : ℕ) (u : ℤ) (b : Bool) (start : LowerBound) (v : Value) → start ≡ at.Filled → v ≡ number_value scale u (not b) → b ≡ true → true ≡ starts start v
filled_starts scale u b start v e i h = rw (e, i, h) refl

pub above_starts : (scale : ℕ) (u limit : ℤ) (start : LowerBound) (v : Value) → start ≡ at.Above limit → v ≡ Number u scale → int_lt limit u ≡ starts start v
above_starts scale u limit start v e i = rw (e, i) (units_above u limit)

pub texts_start : (scale : ℕ) (u : ℤ) (b : Bool) (start : LowerBound) (v : Value) → ((x : Bor (List ℕ)) × (start ≡ at.From x)) ⊎ ((x : Bor (List ℕ)) × (start ≡ at.Behind x)) → v ≡ number_value scale u b → false ≡ starts start v
texts_start scale u true start v (inl (x, e)) i = rw (e, i) refl
texts_start scale u false start v (inl (x, e)) i = rw (e, i) refl
texts_start scale u true start v (inr (x, e)) i = rw (e, i) refl
texts_start scale u false start v (inr (x, e)) i = rw (e, i) refl

pub numbers_meet : (type : SqlType) (v : ℤ) (n : ℕ) → kind_of type ≡ Numbers → (cell : Value) → IsHeld type cell → is_none (compare cell (Number v n)) ≡ is_null cell
numbers_meet type v n k Null h = refl
numbers_meet type v n k (Number u s) h = refl
numbers_meet type v n k (Text t) h = absurd (texts_not_numbers (sym h ∙ k))

pub texts_meet : (type : SqlType) (t : List ℕ) → kind_of type ≡ Texts → (cell : Value) → IsHeld type cell → is_none (compare cell (Text t)) ≡ is_null cell
texts_meet type t k Null h = refl
texts_meet type t k (Number u s) h = absurd (texts_not_numbers (sym k ∙ h.0))
texts_meet type t k (Text c) h = refl
