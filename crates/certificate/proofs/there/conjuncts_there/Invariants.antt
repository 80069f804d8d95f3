use Rattle.definitions.specs.Certificates.Spelling.{ConjunctIsThere}
use Rattle.certificate.specs.Blocks.{block_in}
use Rattle.certificate.proofs.Elements.{UpTo}
use Rattle.certificate.proofs.there.conjuncts_there.Given as goal

abbrev pub invariant-conjuncts : goal.invariant-conjuncts
invariant-conjuncts l = UpTo (ConjunctIsThere (block_in l.block)) l.conjuncts l.conjunct-index
