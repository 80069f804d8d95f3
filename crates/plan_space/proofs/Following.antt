-- Which table may follow a set of tables.
use Rattle.std.proofs.Common.{◌≡◌, ◌∙◌, ◌⊎◌, inl, inr, sym, subst, ℕ, ◌<◌, true, false, arith}
use Rattle.std.specs.Int.{bit_at}
use Rattle.std.proofs.lemmas.Nat.Bits.{bit_at-zero, same_from_bits}
use Rattle.definitions.specs.Plans.TableSet.{TableSet, Has, Lacks, no_tables}
use Rattle.definitions.specs.Plans.Space.{Space}
use Rattle.definitions.specs.Plans.PlanSpace.{Links, MayFollow}
use Rattle.definitions.proofs.PlanTheory.TableSets.{has_or_lacks}
use Rattle.plan_space.specs.Linked.{AreLinked}

module _ (space : Space) (count : ℕ) (set linked : TableSet) (table : ℕ) (e : space.table_count ≡ count)
    (below : table < count) (lacks : Lacks set table) (are : AreLinked space count set linked) where
  inside : table < space.table_count
  inside = omega (arith, e, below)

  pub linked_follows : Has linked table → MayFollow space set table
  linked_follows h = (inside, lacks, inr (inl ((are table).0 h).2))

  -- where no table is linked
  pub product_follows : linked ≡ no_tables → MayFollow space set table
  product_follows empty = (inside, lacks, inr (inr (λ other lt l links. none other ((are other).1 (omega (arith, e, lt), l, links)))))
    where
      none : (other : ℕ) → Has linked other → ⊥
      none other h = let h' : Has no_tables other = subst (λ s. Has s other) empty h in omega (arith, h', bit_at-zero other)

  -- a table that isn't linked follows only where none is
  pub product_last : space.free_products ≡ false → Lacks linked table → MayFollow space set table → linked ≡ no_tables
  product_last last not_linked may = of_case may.2
    where
      of_bit : ((other : ℕ) → other < space.table_count → Lacks set other → Links space set other → ⊥) → (u : ℕ) → Has linked u ⊎ Lacks linked u → bit_at linked u ≡ bit_at 0 u
      of_bit none u (inl h) = let l = (are u).0 h in let lt = l.0 in absurd (none u (omega (arith, e, lt)) l.1 l.2)
      of_bit none u (inr l) = l ∙ sym (bit_at-zero u)

      of_case : (space.free_products ≡ true) ⊎ Links space set table ⊎ ((other : ℕ) → other < space.table_count → Lacks set other → Links space set other → ⊥) → linked ≡ no_tables
      of_case (inl free) = let no : false ≡ true = sym last ∙ free in absurd cc
      of_case (inr (inl links)) = let h = (are table).1 (below, lacks, links) in absurd (omega (arith, h, not_linked))
      of_case (inr (inr none)) = same_from_bits linked 0 (λ u. of_bit none u (has_or_lacks linked u))

-- where products are free, any table outside the set may
pub free_follows : (space : Space) (set : TableSet) (table : ℕ) → table < space.table_count → Lacks set table → space.free_products ≡ true → MayFollow space set table
free_follows space set table below lacks free = (below, lacks, inl free)
