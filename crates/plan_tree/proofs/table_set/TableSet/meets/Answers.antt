use Rattle.std.proofs.Common.{◌≡◌, ◌∙◌, ℕ, ◌⊎◌, inl, inr, ap, arith}
use Rattle.std.specs.Int.{bit_at}
use Rattle.std.specs.Int.Bits.{bit_and}
use Rattle.std.proofs.lemmas.Bool.Decides.{Decides-eqb, Decides-like, Decides-not}
use Rattle.std.proofs.lemmas.Nat.Bits.{bit_at_and, bit_at-zero, same_from_bits}
use Rattle.definitions.specs.Plans.TableSet.{Has, Lacks}
use Rattle.definitions.proofs.PlanTheory.TableSets.{Decided, has_or_lacks, meets_decided}
use Rattle.plan_tree.proofs.table_set.TableSet.meets.Goals as goal

-- a bit of both stands in what they have in common
common_bit : (a b u : ℕ) → Has a u → Has b u → bit_and a b ≡ 0 → ⊥
common_bit a b u ha hb e =
    let both = bit_at_and a b u in
    let none : bit_at (bit_and a b) u ≡ 0 = ap (λ n. bit_at n u) e ∙ bit_at-zero u in
    omega (arith, both, none, ha, hb)

-- with no table in common no bit is left
no_bit : (a b u : ℕ) → (Has a u → Has b u → ⊥) → bit_at (bit_and a b) u ≡ bit_at 0 u
no_bit a b u apart = of_cases (has_or_lacks a u) (has_or_lacks b u)
  where
    of_cases : Has a u ⊎ Lacks a u → Has b u ⊎ Lacks b u → bit_at (bit_and a b) u ≡ bit_at 0 u
    of_cases (inl ha) (inl hb) = absurd (apart ha hb)
    of_cases (inr la) hb = omega (arith, bit_at_and a b u, bit_at-zero u, la)
    of_cases (inl ha) (inr lb) = omega (arith, bit_at_and a b u, bit_at-zero u, lb)

common_table : (a b : ℕ) → (bit_and a b ≡ 0 → ⊥) → (u : ℕ) × Has a u × Has b u
common_table a b some = of_cases (meets_decided a b)
  where
    of_cases : Decided ((u : ℕ) × Has a u × Has b u) → (u : ℕ) × Has a u × Has b u
    of_cases (inl m) = m
    of_cases (inr apart) = absurd (some (same_from_bits (bit_and a b) 0 (λ u. no_bit a b u (λ ha hb. apart (u, ha, hb)))))

pub returns : goal.returns
returns c =
    let a = c.args.self.bits in
    let b = c.args.other.bits in
    Decides-like _ (common_table a b) (λ m. common_bit a b m.0 m.1 m.2) (Decides-not _ (Decides-eqb (bit_and a b) 0))
