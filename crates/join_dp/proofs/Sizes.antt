-- How many tables a set has.
use Prim.Native.Nat.{zero}
use Rattle.std.proofs.Common.{suc, ◌≡◌, ◌≢◌, ℕ, ◌+◌, ◌^◌, ◌<◌, ◌≤◌, ◌⊎◌, inl, inr, arith, refl, sym, subst}
use Rattle.std.specs.Int.{bit_at}
use Rattle.std.proofs.lemmas.Bool.{cases_eq}
use Rattle.std.proofs.lemmas.Nat.Bits.{bit_at_or, bit_at-pow_same, bit_at-pow_other, bit_at-lt, bit_at-zero}
use Rattle.definitions.specs.Plans.TableSet.{Lacks, only, with_table}
use Rattle.join_dp.specs.Words.{tables_among}

pub among_few : (n s : ℕ) → tables_among n s ≤ n
among_few zero s = omega arith
among_few (suc n) s = omega (arith, among_few n s, bit_at-lt s n)

other_bit : (s t i : ℕ) → i ≢ t → bit_at (with_table s t) i ≡ bit_at s i
other_bit s t i ne = omega (arith, bit_at_or s (2 ^ t) i, bit_at-pow_other t i ne)

new_bit : (s t : ℕ) → Lacks s t → bit_at (with_table s t) t ≡ bit_at s t + 1
new_bit s t lacks = omega (arith, bit_at_or s (2 ^ t) t, bit_at-pow_same t, lacks)

same_among : (n s t : ℕ) → n ≤ t → tables_among n (with_table s t) ≡ tables_among n s
same_among zero s t le = refl
same_among (suc n) s t le = omega (arith, same_among n s t (omega arith), other_bit s t n (omega arith))

pub one_more_among : (n s t : ℕ) → Lacks s t → t < n → tables_among n (with_table s t) ≡ tables_among n s + 1
one_more_among zero s t lacks lt = absurd (omega arith)
one_more_among (suc n) s t lacks lt = of_cases (cases_eq n t) (λ less. one_more_among n s t lacks less)
  where
    of_cases : (n ≡ t) ⊎ (n ≢ t) → (t < n → tables_among n (with_table s t) ≡ tables_among n s + 1) → tables_among (suc n) (with_table s t) ≡ tables_among (suc n) s + 1
    of_cases (inl e) rest =
        let bit : bit_at (with_table s t) n ≡ bit_at s n + 1 = subst (λ i. bit_at (with_table s t) i ≡ bit_at s i + 1) (sym e) (new_bit s t lacks) in
        omega (arith, same_among n s t (omega arith), bit)
    of_cases (inr ne) rest = omega (arith, rest (omega arith), other_bit s t n ne)

pub some_among : (n t : ℕ) → t < n → 1 ≤ tables_among n (only t)
some_among n t lt = let e : tables_among n (with_table 0 t) ≡ tables_among n 0 + 1 = one_more_among n 0 t (bit_at-zero t) lt in omega (arith, e)
