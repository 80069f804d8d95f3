-- Linked tables, one after another.
use Rattle.std.proofs.Common.{◌≡◌, ◌⊎◌, inl, inr, sym, subst, ℕ, ◌+◌, ◌<◌, ◌≤◌, arith}
use Rattle.std.specs.Prelude.{◌^◌}
use Rattle.std.proofs.lemmas.Bool.{cases_lt}
use Rattle.std.proofs.lemmas.Nat.Bits.{bit_at_or, bit_at-lt, bit_at-pow_same}
use Rattle.definitions.specs.Plans.TableSet.{TableSet, Has, Lacks, only, with_table}
use Rattle.definitions.specs.Plans.Space.{Space}
use Rattle.definitions.specs.Plans.PlanSpace.{Links}
use Rattle.definitions.proofs.PlanTheory.TableSets.{has_more, only_has, with_has}
use Rattle.plan_space.specs.Linked.{AreLinked}

-- ---- the tables of one set

has_added : (set : TableSet) (table : ℕ) → Has (with_table set table) table
has_added set table = omega (arith, bit_at_or set (2 ^ table) table, bit_at-pow_same table, bit_at-lt set table)

module _ (space : Space) (set linked : TableSet) (table : ℕ) (before : AreLinked space table set linked) where
  pub one_linked : Lacks set table → Links space set table → AreLinked space (table + 1) set (with_table linked table)
  one_linked lacks links u = (λ h. of_side (with_has linked table u h), λ l. of_place (cases_lt u table) l.0 l.1 l.2)
    where
      of_side : Has linked u ⊎ Has (only table) u → (u < table + 1) × Lacks set u × Links space set u
      of_side (inl h) = let l = (before u).0 h in let below = l.0 in (omega (arith, below), l.1, l.2)
      of_side (inr h) =
          let here : u ≡ table = only_has table u h in
          (omega (arith, here), subst (Lacks set) (sym here) lacks, subst (Links space set) (sym here) links)

      of_place : (u < table) ⊎ (table ≤ u) → u < table + 1 → Lacks set u → Links space set u → Has (with_table linked table) u
      of_place (inl lt) below l k = has_more linked table u ((before u).1 (lt, l, k))
      of_place (inr le) below l k = let here : u ≡ table = omega (arith, le, below) in subst (Has (with_table linked table)) (sym here) (has_added linked table)

  pub not_linked : (Lacks set table → Links space set table → ⊥) → AreLinked space (table + 1) set linked
  not_linked none u = (λ h. wider ((before u).0 h), λ l. of_place (cases_lt u table) l.0 l.1 l.2)
    where
      wider : (u < table) × Lacks set u × Links space set u → (u < table + 1) × Lacks set u × Links space set u
      wider l = let below = l.0 in (omega (arith, below), l.1, l.2)

      of_place : (u < table) ⊎ (table ≤ u) → u < table + 1 → Lacks set u → Links space set u → Has linked u
      of_place (inl lt) below l k = (before u).1 (lt, l, k)
      of_place (inr le) below l k = let here : u ≡ table = omega (arith, le, below) in absurd (none (subst (Lacks set) here l) (subst (Links space set) here k))
