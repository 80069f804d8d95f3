-- Queries worked out on bound blocks. After each stands a variant to which the definitions say no.
use Rattle.std.proofs.Common.{◌≡◌, refl, ℕ, zero, suc, List, [], ◌∷◌, true, false, arith, lit<, lit≤}
use Rattle.std.specs.Prelude.{codes, IsPermutation, IsSorted, Contains}
use Rattle.std.specs.Fmt.{digits}
use Rattle.std.specs.Ordering.{is_lt}
use Rattle.std.specs.declared.cmp.Ordering.{Ordering}
use Rattle.std.proofs.lemmas.List.Sorted.{sum_by-IsPermutation}
use Rattle.std.specs.List.{sum_by}
use Rattle.definitions.specs.Value.{Value, Null, Text}
use Rattle.definitions.specs.Table.{Row}
use Rattle.definitions.specs.Arithmetic as a
use Rattle.definitions.specs.Queries.Outcomes.{row_order, order_keys}
use Rattle.definitions.specs.Examples.Queries.{whole, joined, grouped, twenty, GuardedDivision, NoRows, NullsInLists, PaddedTexts, LargeNumbers, LongSums, Subqueries, JoinsAndGroups, FurtherRules, FurtherTexts}

-- an exception is no other
no_division : Contains (a.OutOfRange ∷ []) a.DivisionByZero → ⊥
no_division (zero, below, h) = cc
no_division (suc k, below, h) = omega (arith, below)

-- how many nulls stand in a row
abbrev is_null_cell : Value → ℕ
is_null_cell Null = 1
is_null_cell _ = 0

abbrev nulls : Row → ℕ
nulls = sum_by is_null_cell

-- lists with different numbers of elements that pass a test are no permutations of one another
no_permutation : {X : Type 0} (f : X → ℕ) (xs ys : List X) → (sum_by f ys ≡ sum_by f xs → ⊥) → IsPermutation xs ys → ⊥
no_permutation f xs ys different h = different (sum_by-IsPermutation f xs ys h)

-- two rows of which the second is not below the first
two_sorted : {X : Type 0} (cmp : X → X → Ordering) (x y : X) → is_lt (cmp y x) ≡ false → IsSorted cmp (x ∷ y ∷ [])
two_sorted cmp x y h zero d l m = h
two_sorted cmp x y h (suc k) d l m = absurd (omega (arith, m))

pub guarded_division : GuardedDivision
guarded_division = record {
  division_is_guarded = refl;
  division_raises = refl;
  division_gives_no_rows = λ h. h;
  guarded_division_does_not_raise = λ h. h;
}

pub no_rows : NoRows
unfolding digits
no_rows = record {
  no_rows_shown = refl;
  one_group_of_nothing = refl;
  count_and_sum_shown = refl;
  count_prints_a_row = λ h. no_permutation (λ r. 1) ((whole 0 ∷ Null ∷ []) ∷ []) [] (λ e. omega (arith, e)) h.0;
  sum_of_nothing_is_not_zero = λ h. no_permutation nulls ((whole 0 ∷ Null ∷ []) ∷ []) ((whole 0 ∷ whole 0 ∷ []) ∷ []) (λ e. omega (arith, e)) h.0;
}

pub nulls_in_lists : NullsInLists
nulls_in_lists = record {
  not_in_with_null_is_never_true = refl;
  in_with_null = refl;
  two_is_not_in = λ h. no_permutation (λ r. 1) [] ((whole 2 ∷ []) ∷ []) (λ e. omega (arith, e)) h.0;
}

pub padded_texts : PaddedTexts
unfolding digits
padded_texts = record {
  equals_pads = refl;
  padded_text_shown = refl;
  like_counts_padding = refl;
  like_any_ending = refl;
  like_does_not_pad = λ h. no_permutation (λ r. 1) [] ((Text (codes "ab   ") ∷ []) ∷ []) (λ e. omega (arith, e)) h.0;
}

pub large_numbers : LargeNumbers
unfolding digits
large_numbers = record {
  square_is_exact = refl;
  square_shown = refl;
  cube_raises = refl;
  cube_raises_no_other = λ h. no_division h;
  exception_shown = refl;
}

pub long_sums : LongSums
long_sums = record {
  sum_is_judged_at_its_end = refl;
  too_great_a_sum_raises = refl;
  sum_does_not_raise_midway = λ h. h;
}

pub subqueries : Subqueries
subqueries = record {
  subquery_of_two_rows_raises = refl;
  subquery_of_no_row_is_null = refl;
  exists_of_a_row = refl;
  exists_raises_what_its_rows_do = refl;
  exists_of_no_row_is_false = refl;
  two_rows_are_not_one_value = λ h. h;
}

pub joins_and_groups : JoinsAndGroups
unfolding digits
joins_and_groups = record {
  nulls_do_not_join = refl;
  joined_in_order = (record { moves = (0, 1) ∷ []; below = (lit< tt, lit< tt, tt); is = refl }, two_sorted (row_order (order_keys joined)) (whole 30 ∷ whole 5 ∷ []) (whole 10 ∷ whole 5 ∷ []) refl);
  joined_out_of_order = λ h. let rises : true ≡ false = h.1 0 [] (lit≤ tt) (lit< tt) in cc;
  joined_shown = refl;
  nulls_are_one_group = (record { moves = (0, 1) ∷ []; below = (lit< tt, lit< tt, tt); is = refl }, two_sorted (row_order (order_keys grouped)) (Null ∷ whole 1 ∷ twenty ∷ []) (whole 1 ∷ whole 2 ∷ twenty ∷ []) refl);
  nulls_are_not_left_out = λ h. no_permutation (λ r. 1) ((whole 1 ∷ whole 2 ∷ twenty ∷ []) ∷ (Null ∷ whole 1 ∷ twenty ∷ []) ∷ []) ((whole 1 ∷ whole 2 ∷ twenty ∷ []) ∷ []) (λ e. omega (arith, e)) h.0;
  groups_shown = refl;
}

pub further_rules : FurtherRules
further_rules = record {
  late_conjuncts_do_not_guard = refl;
  either_exception = refl;
  set_functions_leave_nulls_out = refl;
  small_sum_cannot_raise = refl;
  cube_can_raise = refl;
  functions_of_every_group = refl;
  columns_where_having_is_true = refl;
  nulls_are_not_distinct = refl;
  all_of_no_row = refl;
  any_of_no_row = refl;
  quotient_is_cut = refl;
  null_over_zero = refl;
  zero_divisor_first = refl;
  numerator_too_great = refl;
  operand_too_great = refl;
  blanks_fit_underscores = refl;
  too_few_underscores = refl;
}

pub further_texts : FurtherTexts
unfolding digits
further_texts = record {
  guarded_shown = refl;
  division_shown = refl;
  not_in_shown = refl;
  in_shown = refl;
  sum_shown = refl;
  cardinality_shown = refl;
  exists_shown = refl;
}
