-- Sets with and without a table.
use Rattle.std.proofs.Common.{◌≡◌, ◌∙◌, ℕ, ◌+◌, ◌-◌, ◌*◌, ◌/◌, ◌%◌, ◌^◌, ◌≤◌, ap, subst, arith, mod-lt}
use Rattle.std.proofs.lemmas.Nat.{div-add-mod', div-mul-add, pow_pos, or_disjoint}
use Rattle.std.proofs.lemmas.Nat.Bits.{and_pow, bit_at_or, bit_at-pow_same, bit_at-lt}
use Rattle.definitions.specs.Plans.TableSet.{Has, Lacks, with_table}

-- a set with a table that it lacks is greater by that table
pub with_more : (s t : ℕ) → Lacks s t → with_table s t ≡ s + 2 ^ t
with_more s t lacks = or_disjoint s (2 ^ t) (and_pow s t ∙ ap (λ b. b * 2 ^ t) lacks ∙ omega arith)

pub same_before : (a b t : ℕ) → Lacks a t → Lacks b t → with_table a t ≡ with_table b t → a ≡ b
same_before a b t la lb e = omega (arith, with_more a t la, with_more b t lb, e)

pub has_last : (s t : ℕ) → Has (with_table s t) t
has_last s t = omega (arith, bit_at_or s (2 ^ t) t, bit_at-pow_same t, bit_at-lt s t)

some_left : (s m q r : ℕ) → q % 2 ≡ 1 → q * m + r ≡ s → (p : ℕ) × (q ≡ p + 1) × (s ≡ p * m + m + r)
some_left s m q r odd e = (q - 1, omega (arith, odd), let one : q ≡ q - 1 + 1 = omega (arith, odd) in let e' = subst (λ n. n * m + r ≡ s) one e in omega (arith, e'))

even_before : (p q : ℕ) → q ≡ p + 1 → q % 2 ≡ 1 → p % 2 ≡ 0
even_before p q e odd = omega arith

rest_is : (s m p r : ℕ) → s ≡ p * m + m + r → s - m ≡ p * m + r
rest_is s m p r e = omega (arith, e)

-- what is left of a set without one of its tables
pub is_less : (s t : ℕ) → Has s t → 2 ^ t ≤ s
is_less s t has = let p = some_left s (2 ^ t) (s / 2 ^ t) (s % 2 ^ t) has (div-add-mod' s (2 ^ t)) in omega (arith, p.2)

pub lacks_it : (s t : ℕ) → Has s t → Lacks (s - 2 ^ t) t
lacks_it s t has =
    let p = some_left s (2 ^ t) (s / 2 ^ t) (s % 2 ^ t) has (div-add-mod' s (2 ^ t)) in
    ap (λ n. n / 2 ^ t % 2) (rest_is s (2 ^ t) p.0 (s % 2 ^ t) p.2) ∙ ap (λ n. n % 2) (div-mul-add p.0 (2 ^ t) (s % 2 ^ t) (mod-lt s (pow_pos t))) ∙ even_before p.0 (s / 2 ^ t) p.1 has

pub with_it : (s t : ℕ) → Has s t → with_table (s - 2 ^ t) t ≡ s
with_it s t has = with_more (s - 2 ^ t) t (lacks_it s t has) ∙ omega (arith, is_less s t has)
