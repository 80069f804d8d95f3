-- Counts that stop at the limit.
use Rattle.std.proofs.Common.{◌≡◌, ◌∙◌, ap, ℕ, ◌+◌, List, [], ◌∷◌, min, arith}
use Rattle.std.specs.Prelude.{sum_by, IsPermutation}
use Rattle.std.proofs.lemmas.List.Sums.{sum_by-cons}
use Rattle.std.proofs.lemmas.List.Sorted.{sum_by-IsPermutation}
use Rattle.definitions.specs.Plans.Cost.{limit, saturated}
use Rattle.definitions_answers.specs.InnerTotals.{counted_on, CountIsSum}

may_stop : (a b most : ℕ) → min (min a most + b) most ≡ min (a + b) most
may_stop a b most = omega arith

stops : (a b : ℕ) → saturated (saturated a + b) ≡ saturated (a + b)
stops a b = may_stop a b limit

pub counted : (so_far : ℕ) (ns : List ℕ) → counted_on (saturated so_far) ns ≡ saturated (so_far + sum_by (λ n. n) ns)
counted so_far [] = ap saturated (omega arith)
counted so_far (n ∷ ns) =
    let own : saturated (saturated so_far + n) ≡ saturated (so_far + n) = stops so_far n in
    let sums : so_far + n + sum_by (λ m. m) ns ≡ so_far + sum_by (λ m. m) (n ∷ ns) = omega (arith, sum_by-cons (λ m. m) n ns) in
    ap (λ start. counted_on start ns) own ∙ counted (so_far + n) ns ∙ ap saturated sums

pub count_is_sum : CountIsSum
count_is_sum so_far works added p = counted so_far added ∙ ap (λ n. saturated (so_far + n)) (sum_by-IsPermutation (λ n. n) works added p)
