-- What a condition bounds of a column is what it matches, once the tables that it needs are known.
use Rattle.std.proofs.Common.{◌≡◌, ◌∙◌, refl, sym, ap, ap₂, ℕ, Bool, true, false, Option, Some, None, if◌then◌else◌, arith}
use Rattle.std.specs.Prelude.{not, ◌&&◌, ◌||◌, ◌==◌, bit_or, option_map, option_and_then, unwrap_or}
use Rattle.std.specs.Int.{bit_at}
use Rattle.std.proofs.lemmas.Bool.Decides.{nat_tests}
use Rattle.std.proofs.lemmas.Nat.Bits.{bit_at_or, same_from_bits}
use Rattle.definitions.specs.Statement.{Equals, NotEquals, LessThan, GreaterThan, LessOrEquals, GreaterOrEquals}
use Rattle.definitions.specs.Plans.TableSet.{TableSet}
use Rattle.definitions.specs.Plans.Order.{BlockColumn}
use Rattle.definitions.specs.Queries.BoundBlock.{Condition}
use Rattle.definitions.specs.Queries.Conjuncts.{tables_named}
use Rattle.definitions.specs.Estimates.BlockTables.{has, is_within}
use Rattle.definitions.specs.Estimates.Paths.{ColumnTerm, ByComparison, ByBounds, column_term, is_range, is_equality, says}
use Rattle.definitions.proofs.EstimateTheory.Tests.{left_of, right_of, eq_of}
use Rattle.predicates.proofs.Naming.{has_either}
use Rattle.access_paths.specs.Bounds.{SargableTerm, bound_by, sargable_term}

-- ---- tests

pub same_tests : (x y : Bool) → (x ≡ true → y ≡ true) → (y ≡ true → x ≡ true) → x ≡ y
same_tests true y f g = sym (f refl)
same_tests false true f g = g refl
same_tests false false f g = refl

both_true : (x y : Bool) → x ≡ true → y ≡ true → (x && y) ≡ true
both_true true true a b = refl
both_true true false a b = b
both_true false y a b = a

pub or_within : (a b s : TableSet) → is_within (bit_or a b) s ≡ (is_within a s && is_within b s)
or_within a b s = same_tests (is_within (bit_or a b) s) (is_within a s && is_within b s) apart together
  where
    whole : bit_or (bit_or a b) s ≡ s → (u : ℕ) → bit_at (bit_or (bit_or a b) s) u ≡ bit_at s u
    whole e u = ap (λ n. bit_at n u) e

    first : bit_or (bit_or a b) s ≡ s → bit_or a s ≡ s
    first e = same_from_bits (bit_or a s) s (λ u. let w = simp bit_at_or at (whole e u) in simp bit_at_or (omega (arith, w)))

    second : bit_or (bit_or a b) s ≡ s → bit_or b s ≡ s
    second e = same_from_bits (bit_or b s) s (λ u. let w = simp bit_at_or at (whole e u) in simp bit_at_or (omega (arith, w)))

    union : bit_or a s ≡ s → bit_or b s ≡ s → bit_or (bit_or a b) s ≡ s
    union e f =
        same_from_bits (bit_or (bit_or a b) s) s (λ u.
        let x : bit_at (bit_or a s) u ≡ bit_at s u = ap (λ n. bit_at n u) e in
        let y : bit_at (bit_or b s) u ≡ bit_at s u = ap (λ n. bit_at n u) f in
        let x' = simp bit_at_or at x in
        let y' = simp bit_at_or at y in
        simp bit_at_or (omega (arith, x', y')))

    test : (n m : ℕ) → n ≡ m → (n == m) ≡ true
    test n m e = grind (arith, nat_tests, e)

    apart : is_within (bit_or a b) s ≡ true → (is_within a s && is_within b s) ≡ true
    apart h = let e = eq_of (bit_or (bit_or a b) s) s h in both_true (is_within a s) (is_within b s) (test (bit_or a s) s (first e)) (test (bit_or b s) s (second e))

    together : (is_within a s && is_within b s) ≡ true → is_within (bit_or a b) s ≡ true
    together h =
        let e = left_of (is_within a s) (is_within b s) h in
        let f = right_of (is_within a s) (is_within b s) h in
        test (bit_or (bit_or a b) s) s (union (eq_of (bit_or a s) s e) (eq_of (bit_or b s) s f))

-- ---- terms

module _ (tables : TableSet) where
  abbrev pub is_met : Option SargableTerm → Bool
  is_met None = false
  is_met (Some b) = is_within b.required_outer tables

  abbrev pub is_met_by_equals : Option SargableTerm → Bool
  is_met_by_equals None = false
  is_met_by_equals (Some b) = b.equals && is_within b.required_outer tables

  with_true : (x : Bool) → (x && true) ≡ x
  with_true true = refl
  with_true false = refl

  with_false : (x : Bool) → (x && false) ≡ false
  with_false true = refl
  with_false false = refl

  module _ (table : ℕ) where
    -- what is bounded of a column by a value, and by two
    abbrev by_value : TableSet → Option Bool → Bool → Option SargableTerm
    by_value required_outer equality own =
        if own then None else option_map (λ equals. record { equals = equals; required_outer = required_outer }) equality

    equal_side : (required_outer : TableSet) (own : Bool)
        → ((is_within required_outer tables && not own) ≡ is_met (by_value required_outer (Some true) own))
        × ((is_within required_outer tables && not own) ≡ is_met_by_equals (by_value required_outer (Some true) own))
    equal_side required_outer true = (with_false (is_within required_outer tables), with_false (is_within required_outer tables))
    equal_side required_outer false = (with_true (is_within required_outer tables), with_true (is_within required_outer tables))

    limit_side : (required_outer : TableSet) (own : Bool)
        → ((is_within required_outer tables && not own) ≡ is_met (by_value required_outer (Some false) own))
        × (false ≡ is_met_by_equals (by_value required_outer (Some false) own))
    limit_side required_outer true = (with_false (is_within required_outer tables), refl)
    limit_side required_outer false = (with_true (is_within required_outer tables), refl)

    no_side : (required_outer : TableSet) (own : Bool)
        → (false ≡ is_met (by_value required_outer None own)) × (false ≡ is_met_by_equals (by_value required_outer None own))
    no_side required_outer true = (refl, refl)
    no_side required_outer false = (refl, refl)

    both_ends : (below above : TableSet) (x y : Bool)
        → ((is_within below tables && not x) && (is_within above tables && not y)) ≡ is_met (by_value (bit_or below above) (Some false) (x || y))
    both_ends below above true y = ap (λ b. b && (is_within above tables && not y)) (with_false (is_within below tables))
    both_ends below above false true = ap (λ b. (is_within below tables && true) && b) (with_false (is_within above tables)) ∙ with_false (is_within below tables && true)
    both_ends below above false false = ap₂ (λ p q. p && q) (with_true (is_within below tables)) (with_true (is_within above tables)) ∙ sym (or_within below above tables)

    never_equal : (below above : TableSet) (own : Bool) → false ≡ is_met_by_equals (by_value (bit_or below above) (Some false) own)
    never_equal below above true = refl
    never_equal below above false = refl

    of_term : (term : ColumnTerm) → (is_range tables table term ≡ is_met (bound_by table term)) × (is_equality tables table term ≡ is_met_by_equals (bound_by table term))
    of_term (ByComparison Equals e) = equal_side (tables_named e) (has (tables_named e) table)
    of_term (ByComparison NotEquals e) = no_side (tables_named e) (has (tables_named e) table)
    of_term (ByComparison LessThan e) = limit_side (tables_named e) (has (tables_named e) table)
    of_term (ByComparison GreaterThan e) = limit_side (tables_named e) (has (tables_named e) table)
    of_term (ByComparison LessOrEquals e) = limit_side (tables_named e) (has (tables_named e) table)
    of_term (ByComparison GreaterOrEquals e) = limit_side (tables_named e) (has (tables_named e) table)
    of_term (ByBounds low high) = (
      both_ends (tables_named low) (tables_named high) (has (tables_named low) table) (has (tables_named high) table)
          ∙ ap (λ own. is_met (by_value (bit_or (tables_named low) (tables_named high)) (Some false) own)) (sym (has_either (tables_named low) (tables_named high) table)),
      never_equal (tables_named low) (tables_named high) (has (bit_or (tables_named low) (tables_named high)) table),
    )

    of_terms : (term : Option ColumnTerm) → (unwrap_or (option_map (is_range tables table) term) false ≡ is_met (option_and_then (bound_by table) term))
        × (unwrap_or (option_map (is_equality tables table) term) false ≡ is_met_by_equals (option_and_then (bound_by table) term))
    of_terms None = (refl, refl)
    of_terms (Some term) = of_term term

  -- what a condition says that a column equals, and what it matches in any form
  pub equals_as_bound : (column : BlockColumn) (c : Condition) → says (is_equality tables column.table) column c ≡ is_met_by_equals (sargable_term column c)
  equals_as_bound column c = (of_terms column.table (column_term column c)).1

  pub matches_as_bound : (column : BlockColumn) (c : Condition) → says (is_range tables column.table) column c ≡ is_met (sargable_term column c)
  matches_as_bound column c = (of_terms column.table (column_term column c)).0
