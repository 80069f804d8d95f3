-- A block is spelled by what a text of it refers to.
use Rattle.std.proofs.Common.{◌≡◌, ℕ, ◌+◌, map, refl, ap, ap₂}
use Rattle.definitions.specs.Plans.Path.{Path, SegmentScan, IndexScan, MatchingScan}
use Rattle.definitions.specs.Plans.Plan.{Plan, Access, Loop, Merge, Sort}
use Rattle.definitions.specs.Certificates.CertifiedBlock as c
use Rattle.definitions.specs.Certificates.Writing.{index_written, path_written, plan_written}
use Rattle.certificate.specs.Blocks.{IsOf, block_in}
use Rattle.certificate.specs.declared.certified.CertifiedBlock.{CertifiedBlock}

module _ (of : c.CertifiedBlock) (s : CertifiedBlock) (is : IsOf of s) where
  index_same : (table index : ℕ) → index_written of.version (c.indexes_of of table) index ≡ index_written (block_in s).version (c.indexes_of (block_in s) table) index
  index_same table index = rw (is.version, is.indexes) refl

  path_same : (path : Path) → path_written of path ≡ path_written (block_in s) path
  path_same (SegmentScan table) = refl
  path_same (IndexScan table index backward) = ap (λ (i : ℕ). IndexScan (table + 1) i backward) (index_same table index)
  path_same (MatchingScan table index conjuncts backward) =
      ap (λ (i : ℕ). MatchingScan (table + 1) i (map (λ number. number + 1) conjuncts) backward) (index_same table index)

  pub plan_same : (plan : Plan) → plan_written of plan ≡ plan_written (block_in s) plan
  plan_same (Access path) = ap Access (path_same path)
  plan_same (Loop outer path) = ap₂ Loop (plan_same outer) (path_same path)
  plan_same (Merge outer conjunct inner) =
      ap₂ (λ (p : Plan) (q : Path). Merge p (conjunct + 1) (record inner { path = q })) (plan_same outer) (path_same inner.path)
  plan_same (Sort input order) = ap (λ (p : Plan). Sort p order) (plan_same input)
