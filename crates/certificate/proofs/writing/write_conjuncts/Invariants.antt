use Rattle.std.proofs.Common.{◌≡◌, ◌+◌, ◌++◌, ℕ, map, drop}
use Rattle.definitions.specs.Certificates.Text.{conjuncts_text}
use Rattle.certificate.proofs.writing.write_conjuncts.Given as goal

abbrev pub invariant-conjuncts : goal.invariant-conjuncts
invariant-conjuncts l = l.text.items ++ conjuncts_text (map (λ (number : ℕ). number + 1) (drop l.conjunct-index l.conjuncts))
    ≡ l.fn.text.items ++ conjuncts_text (map (λ (number : ℕ). number + 1) l.conjuncts)
