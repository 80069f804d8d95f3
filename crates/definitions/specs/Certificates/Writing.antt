-- How a plan and a certificate of a block are written: Spelling the other way round. Bytes spell a plan and a
-- certificate if and only if they can be spelled and the bytes are their text_written (SpelledIsWritten,
-- WrittenIsSpelled in Laws).
use Rattle.std.specs.Prelude.{ℕ, ◌+◌, ◌≡◌, List, [], map, get_or, IsTrue}
use Rattle.definitions.specs.Plans.Path.{Path, SegmentScan, IndexScan, MatchingScan}
use Rattle.definitions.specs.Plans.Plan.{Plan, Access, Loop, Merge, Sort}
use Rattle.definitions.specs.Plans.Certificate.{Certificate}
use Rattle.definitions.specs.Estimates.Version.{Version, One}
use Rattle.definitions.specs.Certificates.CertifiedBlock.{CertifiedBlock, indexes_of}
use Rattle.definitions.specs.Certificates.Text.{Written, text_of}
use Rattle.definitions.specs.Certificates.Form.{has_form}
use Rattle.definitions.specs.Certificates.Spelling.{plan_meant, AreThere, AreBelow}

abbrev pub index_written : Version → List (List ℕ) → ℕ → ℕ
index_written One indexes index = get_or (get_or indexes index []) 0 0 + 1
index_written _ indexes index = index + 1

module _ (block : CertifiedBlock) where
  abbrev pub path_written : Path → Path
  path_written (SegmentScan table) = SegmentScan (table + 1)
  path_written (IndexScan table index backward) =
      IndexScan (table + 1) (index_written block.version (indexes_of block table) index) backward
  path_written (MatchingScan table index conjuncts backward) =
      MatchingScan (table + 1) (index_written block.version (indexes_of block table) index)
      (map (λ number. number + 1) conjuncts) backward

  abbrev pub plan_written : Plan → Plan
  plan_written (Access path) = Access (path_written path)
  plan_written (Loop outer path) = Loop (plan_written outer) (path_written path)
  plan_written (Merge outer conjunct inner) =
      Merge (plan_written outer) (conjunct + 1) (record inner { path = path_written inner.path })
  plan_written (Sort input order) = Sort (plan_written input) order

  abbrev pub written : Plan → Certificate → Written
  written plan certificate =
      record { block = block.number + 1; plan = plan_written plan; certificate = certificate }

  abbrev pub text_written : Plan → Certificate → List ℕ
  text_written plan certificate = text_of block.version (written plan certificate)

-- what can be spelled of a block: it has the form, its numbers are there, and they mean the plan
pub record IsSpellable (block : CertifiedBlock) (plan : Plan) (certificate : Certificate) : Type 0 where
  pub form : IsTrue (has_form block.version (written block plan certificate))
  pub there : AreThere block (written block plan certificate)
  pub meant : plan_meant block (plan_written block plan) ≡ plan
  pub below : AreBelow certificate
