use Rattle.std.proofs.Common.{◌≡◌, ◌-◌, ◌≤◌, length, map, take}
use Rattle.arrayvec.specs.ArrayVec.{array_vec_len}
use Rattle.certificate.proofs.meant.conjuncts_meant.Given as goal

abbrev pub invariant-conjuncts : goal.invariant-conjuncts
invariant-conjuncts l = record {
  few : length l.conjuncts ≤ 4;
  count : array_vec_len l.numbers ≡ l.conjunct-index;
  exact : l.numbers.items ≡ map (λ number. number - 1) (take l.conjunct-index l.conjuncts);
}
