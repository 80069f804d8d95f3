-- Tables that may not come next: no conjunct links them to the set, and one links another.
use Prim.Native.Nat.{zero}
use Rattle.std.proofs.Common.{suc, ap, sym, ◌∙◌, ◌≡◌, ℕ, ◌+◌, ◌<◌, ◌⊎◌, inl, inr, refl, Bool, true, false, Option, Some, None, length, arith}
use Rattle.std.proofs.lemmas.Bool.{false≢true}
use Rattle.std.proofs.lemmas.Nat.Bits.{bit_at_or, bit_at_and, bit_at-zero}
use Rattle.std.specs.Prelude.{not, max, min, ◌&&◌, ◌||◌, ◌==◌, bit_or, bit_and, slice_get}
use Rattle.std.specs.Int.{bit_at}
use Rattle.std.specs.List.{list_all, list_any, range_with_len}
use Rattle.definitions.specs.Plans.TableSet.{TableSet, Has, Lacks, with_table}
use Rattle.definitions.specs.Plans.Conjunct.{Conjunct}
use Rattle.definitions.specs.Plans.Space.{Space}
use Rattle.definitions.specs.Plans.PlanSpace.{Links, MayFollow}
use Rattle.definitions.specs.Estimates.BlockTables.{has, is_within}
use Rattle.definitions.proofs.PlanTheory.TableSets.{has_or_lacks}
use Rattle.definitions.proofs.EstimateTheory.Tests.{left_of, right_of, other_of, eq_of, at_number, bit_is, not_true}

-- ---- sets as bits

has_of : (tables : TableSet) (table : ℕ) → has tables table ≡ true → Has tables table
has_of tables table h = eq_of (bit_at tables table) 1 h

lacks_of : (tables : TableSet) (table : ℕ) → not (has tables table) ≡ true → Lacks tables table
lacks_of tables table h = of_cases (has_or_lacks tables table)
  where
    of_cases : Has tables table ⊎ Lacks tables table → Lacks tables table
    of_cases (inl is) = let e = not_true (has tables table) (bit_is _ is) in absurd (false≢true (sym e ∙ h))
    of_cases (inr is) = is

greater_of : (x y z : ℕ) → z ≡ y → z ≡ max x y → x ≡ 1 → y ≡ 0 → ⊥
greater_of x y z e m h l = absurd (omega (arith, e, m, h, l))

within_of : (a b u : ℕ) → is_within a b ≡ true → Has a u → Has b u
within_of a b u h is = of_cases (has_or_lacks b u)
  where
    of_cases : Has b u ⊎ Lacks b u → Has b u
    of_cases (inl y) = y
    of_cases (inr l) = absurd (greater_of (bit_at a u) (bit_at b u) (bit_at (bit_or a b) u) (ap (λ n. bit_at n u) (eq_of (bit_or a b) b h)) (bit_at_or a b u) is l)

abbrev are_apart : TableSet → TableSet → Bool
are_apart a b = bit_and a b == 0

lesser_of : (x y z : ℕ) → z ≡ 0 → z ≡ min x y → x ≡ 1 → y ≡ 1 → ⊥
lesser_of x y z e m h l = absurd (omega (arith, e, m, h, l))

apart_of : (a b u : ℕ) → are_apart a b ≡ true → Has a u → Has b u → ⊥
apart_of a b u h x y = lesser_of (bit_at a u) (bit_at b u) (bit_at (bit_and a b) u) (ap (λ n. bit_at n u) (eq_of (bit_and a b) 0 h) ∙ bit_at-zero u) (bit_at_and a b u) x y

some_in_range : (p : ℕ → Bool) (from count : ℕ) → list_any p (range_with_len from count) ≡ true → (n : ℕ) × (n < from + count) × (p n ≡ true)
some_in_range p from zero h = absurd (false≢true h)
some_in_range p from (suc count) h = of_test (p from) refl (λ e. some_in_range p (from + 1) count (other_of _ _ h e))
  where
    of_test : (t : Bool) → p from ≡ t → (p from ≡ false → (n : ℕ) × (n < from + 1 + count) × (p n ≡ true)) → (n : ℕ) × (n < from + suc count) × (p n ≡ true)
    of_test true e rest = (from, omega arith, e)
    of_test false e rest = let r = rest e in (r.0, (let lt = r.1 in omega (arith, lt)), r.2)

module _ (space : Space) where
  -- ---- no conjunct links the table

  abbrev is_no_link : TableSet → ℕ → Conjunct → Bool
  is_no_link tables table c = not (has c.tables table) || are_apart c.tables tables

  abbrev unlinked : TableSet → ℕ → Bool
  unlinked tables table = list_all (is_no_link tables table) space.conjuncts

  not_linked : (tables : TableSet) (table : ℕ) → unlinked tables table ≡ true → Links space tables table → ⊥
  not_linked tables table h (number, c, is, early, names, (other, in_set, in_conjunct), within) =
      let tested = at_number (is_no_link tables table) space.conjuncts number c h is in
      apart_of c.tables tables other (other_of _ _ tested (not_true _ (bit_is _ names))) in_conjunct in_set

  -- ---- one links another

  abbrev is_link : TableSet → ℕ → ℕ → Option Conjunct → Bool
  is_link tables table other None = false
  is_link tables table other (Some c) = c.early && (has c.tables table && (has tables other && (has c.tables other && is_within c.tables (with_table tables table))))

  abbrev some_link : TableSet → ℕ → Bool
  some_link tables table =
      list_any (λ number. list_any (λ other. is_link tables table other (slice_get space.conjuncts number)) (range_with_len 0 space.table_count)) (range_with_len 0 (length space.conjuncts))

  linked : (tables : TableSet) (table : ℕ) → some_link tables table ≡ true → Links space tables table
  linked tables table h =
      let by = some_in_range _ 0 (length space.conjuncts) h in
      let other = some_in_range _ 0 space.table_count by.2 in
      of_option other.0 by.0 (slice_get space.conjuncts by.0) refl other.2
    where
      of_option : (other number : ℕ) (o : Option Conjunct) → slice_get space.conjuncts number ≡ o → is_link tables table other o ≡ true → Links space tables table
      of_option other number None is t = absurd (false≢true t)
      of_option other number (Some c) is t =
          let rest = right_of c.early _ t in let rest2 = right_of (has c.tables table) _ rest in let rest3 = right_of (has tables other) _ rest2 in (
            number,
            c,
            is,
            left_of c.early _ t,
            has_of _ _ (left_of (has c.tables table) _ rest),
            (other, has_of _ _ (left_of (has tables other) _ rest2), has_of _ _ (left_of (has c.tables other) _ rest3)),
            λ u is. within_of c.tables (with_table tables table) u (right_of (has c.tables other) _ rest3) is,
          )

  -- ---- together

  abbrev pub waits : TableSet → ℕ → Bool
  waits tables table = not space.free_products && (unlinked tables table && list_any (λ other. not (has tables other) && some_link tables other) (range_with_len 0 space.table_count))

  pub may_not_follow : (tables : TableSet) (table : ℕ) → waits tables table ≡ true → MayFollow space tables table → ⊥
  may_not_follow tables table h (lt, lacks, inl free) = let e = not_true _ free in false≢true (sym e ∙ left_of (not space.free_products) _ h)
  may_not_follow tables table h (lt, lacks, inr (inl links)) = not_linked tables table (left_of (unlinked tables table) _ (right_of (not space.free_products) _ h)) links
  may_not_follow tables table h (lt, lacks, inr (inr none)) =
      let found = some_in_range _ 0 space.table_count (right_of (unlinked tables table) _ (right_of (not space.free_products) _ h)) in
      none found.0 (let lt = found.1 in omega (arith, lt)) (lacks_of tables found.0 (left_of (not (has tables found.0)) _ found.2)) (linked tables found.0 (right_of (not (has tables found.0)) _ found.2))
