-- What tests of sets say.
use Rattle.std.proofs.Common.{◌≡◌, ◌∙◌, ◌<◌, ◌≤◌, ◌^◌, ◌⊎◌, inl, inr, sym, ap, ℕ, true, false, arith}
use Rattle.std.specs.Prelude.{bit_or}
use Rattle.std.specs.Int.{bit_at}
use Rattle.std.proofs.lemmas.Bool.{cases_lt}
use Rattle.std.proofs.lemmas.Bool.Decides.{Decides-eqb}
use Rattle.std.proofs.lemmas.Nat.Bits.{bit_at_above, bit_at_or, bit_at-lt, same_from_bits}
use Rattle.definitions.specs.Plans.TableSet.{TableSet, Has, Lacks}
use Rattle.definitions.specs.Estimates.BlockTables.{has, is_within}
use Rattle.definitions.proofs.PlanTheory.TableSets.{search_below, both_decided, has_decided, lacks_decided, has_or_lacks}

pub has_it : (s : TableSet) (u : ℕ) → has s u ≡ true → Has s u
has_it s u e = (Decides-eqb (bit_at s u) 1).0 e

pub lacks_it : (s : TableSet) (u : ℕ) → has s u ≡ false → Lacks s u
lacks_it s u e = of_bit (has_or_lacks s u)
  where
    of_bit : Has s u ⊎ Lacks s u → Lacks s u
    of_bit (inl h) = let yes : has s u ≡ true = (Decides-eqb (bit_at s u) 1).1 h in let both : false ≡ true = sym e ∙ yes in absurd cc
    of_bit (inr l) = l

pub has_not : (s : TableSet) (u : ℕ) → has s u ≡ true → Lacks s u → ⊥
has_not s u e l = let h = has_it s u e in omega (arith, h, l)

pub all_there : (a b : TableSet) → bit_or a b ≡ b → (u : ℕ) → Has a u → Has b u
all_there a b e u h =
    let same : bit_at (bit_or a b) u ≡ bit_at b u = ap (λ n. bit_at n u) e in
    omega (arith, bit_at_or a b u, same, h, bit_at-lt b u)

pub nothing_more : (a b : TableSet) → ((u : ℕ) → Has a u → Has b u) → bit_or a b ≡ b
nothing_more a b all = same_from_bits (bit_or a b) b (λ u. of_bit u (has_or_lacks a u))
  where
    of_bit : (u : ℕ) → Has a u ⊎ Lacks a u → bit_at (bit_or a b) u ≡ bit_at b u
    of_bit u (inl h) = omega (arith, bit_at_or a b u, h, all u h)
    of_bit u (inr l) = omega (arith, bit_at_or a b u, l)

pub within_has : (a b : TableSet) → is_within a b ≡ true → (u : ℕ) → Has a u → Has b u
within_has a b e = all_there a b ((Decides-eqb (bit_or a b) b).0 e)

pub has_within : (a b : TableSet) → ((u : ℕ) → Has a u → Has b u) → is_within a b ≡ true
has_within a b all = (Decides-eqb (bit_or a b) b).1 (nothing_more a b all)

-- of a set of the first tables that isn't all in another, a table is missing there
pub missing : (a b count : ℕ) → a < 2 ^ count → is_within a b ≡ false → (u : ℕ) × Has a u × Lacks b u
missing a b count few e = of_search (search_below (λ u. Has a u × Lacks b u) (λ u. both_decided (has_decided a u) (lacks_decided b u)) count)
  where
    below : (u : ℕ) → Has a u → (u < count) ⊎ (count ≤ u) → u < count
    below u h (inl lt) = lt
    below u h (inr ge) = absurd (omega (arith, h, bit_at_above a count u few ge))

    there : ((u : ℕ) → u < count → Has a u × Lacks b u → ⊥) → (u : ℕ) → Has a u → Has b u ⊎ Lacks b u → Has b u
    there none u h (inl has) = has
    there none u h (inr lacks) = absurd (none u (below u h (cases_lt u count)) (h, lacks))

    of_search : ((u : ℕ) × (u < count) × (Has a u × Lacks b u)) ⊎ ((u : ℕ) → u < count → Has a u × Lacks b u → ⊥) → (u : ℕ) × Has a u × Lacks b u
    of_search (inl (u, lt, both)) = (u, both.0, both.1)
    of_search (inr none) =
        let all : is_within a b ≡ true = has_within a b (λ u h. there none u h (has_or_lacks b u)) in
        let both : false ≡ true = sym e ∙ all in absurd cc
